-- A unit at its place in the bytes, and a file beside it. Assumes nothing.
use borrow.Author.Tests.{eqb-true, eq-eqb, ne_eqb}
use mathlib.Core.Path.{◌≡◌, refl, sym, ap, ap₂, ◌∙◌}
use mathlib.Core.Bool.{Bool, true, false, not, cond, ◌&&◌, ◌||◌}
use mathlib.Core.List.{List, []}
use Prim.Native.Nat.{ℕ, zero, suc, ◌+◌, ◌*◌, ◌≤◌, ◌<◌}
use native.Mathlib.Omega.{arith}
use lib.Dec.{eqb}
use lib.ListN.{length, get_or, drop, get_or-eq_default}
use lib.Seq.{drop-drop, get_or-drop}
use Rattle.area.specs.Lists.{one_if}
use Rattle.area.proofs.Walks.{true_not_false}
use Rattle.area.proofs.Marks.{cond_true, cond_false}
use Rattle.channel.specs.declared.Op.{Op}
use Rattle.channel.specs.declared.Op.TheVariants.{Read, Write, Mark}
use Rattle.channel.specs.declared.Request.{Request}
use Rattle.channel.specs.declared.Turn.{Turn}
use Rattle.channel.specs.declared.Turn.TheVariants.{Working}
use Rattle.channel.specs.declared.Unit as Unit
use Rattle.channel.specs.declared.Channel.{Channel}
use Rattle.channel.specs.Units.{unit_count, channel_count, idle_unit, unit_at, declared_at, turn_at, fresh_of, fresh_with, bits_from}
use Rattle.file.specs.declared.Slot.{Slot}
use Rattle.file.specs.declared.File.{File}
use Rattle.file.specs.Sides.{lower, oldest, is_side}
use Rattle.file.specs.Slots.{slot_kind, is_taken, is_full}
use Rattle.file_input.specs.Delivers.{has_full}
use Rattle.state.specs.Places.{no_channel, channel_in}
use Rattle.state_sound.proofs.ChannelFacts.{no_declared}
use Rattle.state_sound.specs.Files.{taken_count}
use Rattle.state_sound.specs.Requests.{requested, is_read, is_write, fits_output}
use Rattle.state_sound.specs.Soundness.{channel_of, request_of}
use Rattle.state_sound.specs.Judged.{file_ready}
use Rattle.codec.specs.Codecs.{read_each}
use Rattle.codec.proofs.Codecs.{read_whole, length_read}
use Rattle.codec.proofs.Tight.{read_at}
use Rattle.state_image.specs.Units.{turn_of, op_of, unit_from, request_from, unit_codec, units_codec, channel_head, channel_codec}
use Rattle.state_image.specs.Files.{file_codec}
use Rattle.state_image.specs.Images.{state_head, channels_codec}
use Rattle.state_image.proofs.Joined.{first_there, byte_there}
use Rattle.image_sound.specs.Judging.{channels_in, unit_place, ready_by, fits_unit, KindsThere}
use Rattle.image_sound.proofs.FileLaws.{kind_taken, kind_full}
use Rattle.std.specs.declared.option.Option.{Option}
use Rattle.std.specs.declared.option.Option.TheVariants.{Some, None}

-- ---- a unit at its place

module _ (bs : List ℕ) where
  pub channel_there : (c : ℕ) → c < channel_count → channel_in (channels_in bs) c ≡ (channel_codec unit_count).read (drop (state_head + c * (channel_codec unit_count).size) bs)
  channel_there c h =
      ap (λ (l : List Channel). get_or l c no_channel) (read_whole (channel_codec unit_count) no_channel channel_count (drop state_head bs))
      ∙ read_at (channel_codec unit_count) channel_count (drop state_head bs) c no_channel h
      ∙ ap (channel_codec unit_count).read (drop-drop (c * (channel_codec unit_count).size) state_head bs)

  pub unit_there : (c u : ℕ) → c < channel_count → u < unit_count → unit_at (channel_in (channels_in bs) c) u ≡ unit_from (drop (unit_place c u) bs)
  unit_there c u h k =
      let at = state_head + c * (channel_codec unit_count).size in
      let us = drop channel_head (drop at bs) in
      let z : at + channel_head + u * unit_codec.size ≡ unit_place c u = omega arith in
      ap (λ (x : Channel). unit_at x u) (channel_there c h)
      ∙ ap (λ (l : List Unit.Unit). get_or l u (idle_unit false)) (read_whole unit_codec (idle_unit false) unit_count us)
      ∙ read_at unit_codec unit_count us u (idle_unit false) k
      ∙ ap unit_from (ap (drop (u * unit_codec.size)) (drop-drop channel_head at bs) ∙ drop-drop (u * unit_codec.size) (at + channel_head) bs ∙ ap (λ (n : ℕ). drop n bs) z)

  channels_long : length (channels_in bs) ≡ channel_count
  channels_long = ap length (read_whole (channel_codec unit_count) no_channel channel_count (drop state_head bs)) ∙ length_read (channel_codec unit_count) channel_count (drop state_head bs)

  -- past the last channel, and past the last unit, no unit is declared
  pub no_channel_lem : (c u : ℕ) → channel_count ≤ c → declared_at (channel_in (channels_in bs) c) u ≡ false
  no_channel_lem c u h =
      let far : length (channels_in bs) ≤ c = omega (arith, channels_long, h) in
      ap (λ (x : Channel). declared_at x u) (get_or-eq_default (channels_in bs) no_channel {n = c} far) ∙ no_declared u

  pub no_unit : (c u : ℕ) → c < channel_count → unit_count ≤ u → declared_at (channel_in (channels_in bs) c) u ≡ false
  no_unit c u h k =
      let us = drop channel_head (drop (state_head + c * (channel_codec unit_count).size) bs) in
      let long : length ((units_codec unit_count).read us) ≡ unit_count = ap length (read_whole unit_codec (idle_unit false) unit_count us) ∙ length_read unit_codec unit_count us in
      let far : length ((units_codec unit_count).read us) ≤ u = omega (arith, long, k) in
      ap (λ (x : Channel). declared_at x u) (channel_there c h) ∙ ap (λ (x : Unit.Unit). x.declared) (get_or-eq_default ((units_codec unit_count).read us) (idle_unit false) {n = u} far)

-- ---- ready for a request

requested_of : (k : ℕ) (q : Request) → requested (turn_of k q) ≡ cond (eqb k 0) None (Some q.op)
requested_of zero q = refl
requested_of (suc zero) q = refl
requested_of (suc (suc zero)) q = refl
requested_of (suc (suc (suc k))) q =
    let n = suc (suc (suc k)) in
    let turn : turn_of n q ≡ Working q =
    cond_false _ _ (ne_eqb n 0 (λ e. omega (arith, e))) ∙ cond_false _ _ (ne_eqb n 1 (λ e. omega (arith, e))) ∙ cond_false _ _ (ne_eqb n 2 (λ e. omega (arith, e))) in
    ap requested turn ∙ sym (cond_false _ _ (ne_eqb n 0 (λ e. omega (arith, e))))

-- of a unit whose bytes say that it has a request, or none, and of the operation
abbrev work_by : Bool → Bool → Bool → Option Op
work_by none z o = cond none None (Some (cond z Read (cond o Write Mark)))

fits_by : (none z o output : Bool) → fits_output (work_by none z o) output ≡ (none || ((z && not output) || (not z && output)))
fits_by true z o output = refl
fits_by false true o true = refl
fits_by false true o false = refl
fits_by false false true output = refl
fits_by false false false output = refl

read_by : (none z o : Bool) → is_read (work_by none z o) ≡ (not none && z)
read_by true z o = refl
read_by false true o = refl
read_by false false true = refl
read_by false false false = refl

write_by : (none z o : Bool) → (z ≡ true → o ≡ false) → is_write (work_by none z o) ≡ (not none && o)
write_by true z o h = refl
write_by false true true h = absurd (true_not_false refl (h refl))
write_by false true false h = refl
write_by false false true h = refl
write_by false false false h = refl

zero_not_one : (op : ℕ) → eqb op 0 ≡ true → eqb op 1 ≡ false
zero_not_one op e = ne_eqb op 1 (λ z. let y : op ≡ 0 = eqb-true op 0 e in omega (arith, y, z))

taken_law : (a b r : Bool) → eqb (one_if a + one_if b) (one_if r) ≡ ((not r || (a || b)) && ((r || not (a || b)) && not (a && b)))
taken_law true true true = refl
taken_law true true false = refl
taken_law true false true = refl
taken_law true false false = refl
taken_law false true true = refl
taken_law false true false = refl
taken_law false false true = refl
taken_law false false false = refl

side_law : (a b t : Bool) → is_side (lower (a && not (b && t)) b) ≡ (a || b)
side_law true true true = refl
side_law true true false = refl
side_law true false t = refl
side_law false true t = refl
side_law false false t = refl

full_law : (f : File) → has_full f ≡ (is_full f.low.slot || is_full f.high.slot)
unfolding oldest
full_law f = side_law (is_full f.low.slot) (is_full f.high.slot) f.turned

-- a file beside a unit of that standing and that operation
module _ (f : File) (kind op low high : ℕ) (is_low : low ≡ slot_kind f.low.slot) (is-high : high ≡ slot_kind f.high.slot) where
  ready_law : file_ready (cond (eqb kind 0) None (Some (op_of op))) f ≡ ready_by kind op f.output low high
  unfolding file_ready
  ready_law =
      let none = eqb kind 0 in
      let taken = kind_taken f.low.slot in
      rw (
        fits_by none (eqb op 0) (eqb op 1) f.output,
        read_by none (eqb op 0) (eqb op 1),
        write_by none (eqb op 0) (eqb op 1) (zero_not_one op),
        taken_law (is_taken f.low.slot) (is_taken f.high.slot) (not none && eqb op 0),
        full_law f,
        is_low,
        is-high,
        kind_taken f.low.slot,
        kind_taken f.high.slot,
        kind_full f.low.slot,
        kind_full f.high.slot,
      )

-- ---- a file at its place, beside its unit

module _ (bs : List ℕ) (at channel unit : ℕ) (is-channel : channel ≡ get_or bs (at + 1) 0) (is-unit : unit ≡ get_or bs (at + 2) 0) where
  abbrev f : File
  f = file_codec.read (drop at bs)

  channel_is : f.channel ≡ channel
  channel_is = sym (is-channel ∙ byte_there bs at 1)

  unit_is : f.unit ≡ unit
  unit_is = sym (is-unit ∙ byte_there bs at 2)

  unit_of_lem : unit_at (channel_of (channels_in bs) f) f.unit ≡ unit_at (channel_in (channels_in bs) channel) unit
  unit_of_lem = ap₂ (λ (c u : ℕ). unit_at (channel_in (channels_in bs) c) u) channel_is unit_is

  pub fits_no_channel : channel_count ≤ channel → false ≡ fits_unit (channels_in bs) f
  unfolding fits_unit
  fits_no_channel h = sym (ap (λ (b : Bool). b && file_ready (request_of (channels_in bs) f) f) (ap (λ (x : Unit.Unit). x.declared) unit_of_lem ∙ no_channel_lem bs channel unit h))

  pub fits_no_unit : channel < channel_count → unit_count ≤ unit → false ≡ fits_unit (channels_in bs) f
  unfolding fits_unit
  fits_no_unit h k = sym (ap (λ (b : Bool). b && file_ready (request_of (channels_in bs) f) f) (ap (λ (x : Unit.Unit). x.declared) unit_of_lem ∙ no_unit bs channel unit h k))

  module _ (inside : channel < channel_count) (within : unit < unit_count) (kinds : KindsThere (drop at bs)) where
    abbrev to : ℕ
    to = unit_place channel unit

    there : unit_at (channel_of (channels_in bs) f) f.unit ≡ unit_from (drop to bs)
    there = unit_of_lem ∙ unit_there bs channel unit inside within

    asked : request_of (channels_in bs) f ≡ cond (eqb (get_or bs (to + 1) 0) 0) None (Some (op_of (get_or bs (to + 2) 0)))
    asked =
        ap (λ (x : Unit.Unit). requested x.turn) there ∙ requested_of (get_or (drop to bs) 1 0) (request_from (drop to bs))
        ∙ ap₂ (λ (k o : ℕ). cond (eqb k 0) None (Some (op_of o))) (sym (byte_there bs to 1)) (sym (byte_there bs to 2))

    fits_there : (ready : Bool)
        → ready ≡ ready_by (get_or bs (to + 1) 0) (get_or bs (to + 2) 0) (eqb (get_or bs (at + 3) 0) 1) (get_or bs (at + 16) 0) (get_or bs (at + 36) 0)
        → (eqb (get_or bs to 0) 1 && ready) ≡ fits_unit (channels_in bs) f
    unfolding fits_unit
    fits_there ready e =
        let declared : eqb (get_or bs to 0) 1 ≡ declared_at (channel_of (channels_in bs) f) f.unit =
        ap (λ (n : ℕ). eqb n 1) (first_there bs to) ∙ sym (ap (λ (x : Unit.Unit). x.declared) there) in
        let by : ready_by (get_or bs (to + 1) 0) (get_or bs (to + 2) 0) f.output (get_or bs (at + 16) 0) (get_or bs (at + 36) 0) ≡ file_ready (request_of (channels_in bs) f) f =
        sym (ap (λ (x : Option Op). file_ready x f) asked ∙ ready_law f (get_or bs (to + 1) 0) (get_or bs (to + 2) 0) (get_or bs (at + 16) 0) (get_or bs (at + 36) 0) (byte_there bs at 16 ∙ kinds.0) (byte_there bs at 36 ∙ kinds.1)) in
        ap₂ ◌&&◌ declared
        (e ∙ ap (λ (n : ℕ). ready_by (get_or bs (to + 1) 0) (get_or bs (to + 2) 0) (eqb n 1) (get_or bs (at + 16) 0) (get_or bs (at + 36) 0)) (byte_there bs at 3) ∙ by)

    -- the same at a place that is the unit's
    pub fits_placed : (place : ℕ) (ready : Bool) → place ≡ unit_place channel unit
        → ready ≡ ready_by (get_or bs (place + 1) 0) (get_or bs (place + 2) 0) (eqb (get_or bs (at + 3) 0) 1) (get_or bs (at + 16) 0) (get_or bs (at + 36) 0)
        → (eqb (get_or bs place 0) 1 && ready) ≡ fits_unit (channels_in bs) f
    fits_placed place ready p e =
        ap (λ (n : ℕ). eqb (get_or bs n 0) 1 && ready) p
        ∙ fits_there ready (e ∙ ap (λ (n : ℕ). ready_by (get_or bs (n + 1) 0) (get_or bs (n + 2) 0) (eqb (get_or bs (at + 3) 0) 1) (get_or bs (at + 16) 0) (get_or bs (at + 36) 0)) p)
