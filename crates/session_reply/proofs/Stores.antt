-- A state that is read and changed where it lies: what the code makes of a frame comes to its definition. Assumes nothing.
use mathlib.Core.Path.{◌≡◌, refl, sym, ap, ap₂, ◌∙◌}
use mathlib.Core.Bool.{Bool, true, false, cond}
use mathlib.Core.List.{List}
use Prim.Native.Nat.{ℕ, ◌≤◌, ◌<◌}
use native.Mathlib.Omega.{arith}
use borrow.Author.Tests.{ltb-true, ltb-false}
use lib.Dec.{ltb, eqb}
use lib.ListN.{length, get_or, set, length-map, get_or-eq_default}
use lib.Seq.{set-get_or, set_out, get_or-set_same}
use Rattle.area.proofs.Marks.{cond_true, cond_false}
use Rattle.area.proofs.Walks.{by_test}
use Rattle.channel.specs.declared.Channel.{Channel}
use Rattle.channel_turns.specs.Starts.{thaw_of}
use Rattle.file.specs.declared.File.{File}
use Rattle.file.specs.Sizes.{closed_file}
use Rattle.session_frame.specs.declared.Frame.{Frame}
use Rattle.session_frame.specs.declared.Frame.TheVariants.{Malformed, Fresh, Open, Close, Ask, Report, Get, Put, Seal, Skip, Freeze, Thaw, Return, Running}
use Rattle.pool.specs.Free.{file_count}
use Rattle.pool.specs.Masks.{free_after}
use Rattle.pool.proofs.FreeMasks.{after_same}
use Rattle.routines.specs.declared.Post.{Post}
use Rattle.routines.specs.declared.Routines.{Routines}
use Rattle.routines.specs.Posts.{post_at}
use Rattle.state.specs.declared.State.{State}
use Rattle.state.specs.Places.{channel_count, no_channel, file_at, channel_at}
use Rattle.state.specs.Stores.{with_file, with_channel, with_routines}
use Rattle.state.proofs.Lookups.{any_default}
use Rattle.pack_start.specs.Fresh.{fresh_state}
use Rattle.pack_start.specs.Freeze.{frozen_state, thawed_state}
use Rattle.session_reply.specs.declared.Told.{Told}
use Rattle.session_reply.specs.declared.Change.{Change}
use Rattle.session_reply.specs.Places.{named_file, file_number, channel_number, unit_number, place_of, file_or, file_kept, channel_or, channel_kept, channel_for, unit_for}
use Rattle.session_reply.specs.Turns.{whole_state, record_of, record_area, binding_of, request_of, request_area, told_at, record_at, binding_at, change_at, request_at, posted_in, Turned, turned_is, record_turn, binding_turn, request_turn, request_area_on}

-- ---- a place of a list, whatever its number

module _ {A : Type 0} (xs : List A) (n i k : ℕ) (d old : A) (long : length xs ≡ n) (place : k ≡ place_of i n) (read : old ≡ get_or xs k d) where
  at_place : ltb i n ≡ true → old ≡ get_or xs i d
  unfolding place_of
  at_place e = read ∙ ap (λ (j : ℕ). get_or xs j d) (place ∙ cond_true _ _ e)

  pub place_read : (none f : A) → f ≡ cond (ltb i n) old none → f ≡ get_or xs i none
  place_read none f e =
      by_test (λ t. ltb i n ≡ t → f ≡ get_or xs i none) (ltb i n)
      (λ q t. let h : i < length xs = omega (arith, ltb-true i n t) in
      e ∙ cond_true _ _ t ∙ at_place t ∙ any_default xs i d none h)
      (λ q t. let h : length xs ≤ i = omega (arith, ltb-false i n t) in
      e ∙ cond_false _ _ t ∙ sym (get_or-eq_default xs none h))
      refl

  pub place_stored : (new kept : A) → kept ≡ cond (ltb i n) new old → set xs k kept ≡ set xs i new
  unfolding place_of
  place_stored new kept e =
      by_test (λ t. ltb i n ≡ t → set xs k kept ≡ set xs i new) (ltb i n)
      (λ q t. ap₂ (set xs) (place ∙ cond_true _ _ t) (e ∙ cond_true _ _ t))
      (λ q t. let h : length xs ≤ i = omega (arith, ltb-false i n t) in
      ap (set xs k) (e ∙ cond_false _ _ t ∙ read) ∙ set-get_or xs k d ∙ sym (set_out xs i new h))
      refl

-- ---- a state keeps its counts through the calls on the whole of it

pub record Counts (s : State) : Type 0 where
  pub files : length s.files ≡ file_count
  pub channels : length s.channels ≡ channel_count

counts_if : (t : Bool) (s u : State) → Counts s → Counts u → Counts (cond t s u)
counts_if true s u p q = p
counts_if false s u p q = q

state_counts : (s : State) (frame : Frame) → Counts s → Counts (whole_state s frame)
unfolding whole_state fresh_state frozen_state thawed_state
state_counts s (Fresh q) k = record { files = refl; channels = refl }
state_counts s Freeze k = record { files = k.files; channels = k.channels }
state_counts s Thaw k = record { files = k.files; channels = length-map s.channels thaw_of ∙ k.channels }
state_counts s Malformed k = k
state_counts s (Open q) k = k
state_counts s (Close file) k = k
state_counts s (Ask q) k = k
state_counts s (Report q) k = k
state_counts s (Get file) k = k
state_counts s (Put q) k = k
state_counts s (Seal file) k = k
state_counts s (Skip file) k = k
state_counts s Return k = k
state_counts s Running k = k

pub whole_counts : (r : ℕ) (s : State) (frame : Frame) → Counts s → Counts (cond (eqb r 0) (whole_state s frame) s)
whole_counts r s frame k = counts_if (eqb r 0) (whole_state s frame) s (state_counts s frame k) k

-- ---- the file i of a state t, read at its place k

module _ (t : State) (counts : Counts t) (i k : ℕ) (d₁ old : File) (place : k ≡ place_of i file_count) (read : old ≡ get_or t.files k d₁) where
  pub file_is : file_or i old ≡ file_at t i
  unfolding file_or
  file_is = place_read t.files file_count i k d₁ old counts.files place read closed_file (file_or i old) refl

  -- the free buffers follow the file: past the last nothing changes
  mask_is : (g : File) → free_after t.free old (file_kept i g old) ≡ free_after t.free (file_at t i) (get_or (set t.files i g) i closed_file)
  unfolding file_kept place_of
  mask_is g =
      by_test (λ b. ltb i file_count ≡ b → free_after t.free old (file_kept i g old) ≡ free_after t.free (file_at t i) (get_or (set t.files i g) i closed_file)) (ltb i file_count)
      (λ q b. let h : i < length t.files = omega (arith, ltb-true i file_count b, counts.files) in
      ap₂ (free_after t.free) (read ∙ ap (λ (x : ℕ). get_or t.files x d₁) (place ∙ cond_true _ _ b) ∙ any_default t.files i d₁ closed_file h)
      (cond_true _ _ b ∙ sym (get_or-set_same t.files i g closed_file h)))
      (λ q b. let h : length t.files ≤ i = omega (arith, ltb-false i file_count b, counts.files) in
      ap (free_after t.free old) (cond_false _ _ b) ∙ sym (after_same t.free old old refl)
      ∙ after_same t.free (file_at t i) (file_at t i) refl
      ∙ ap (λ (fs : List File). free_after t.free (file_at t i) (get_or fs i closed_file)) (sym (set_out t.files i g h)))
      refl

  -- the state with another file stored there
  pub file_stored : (cs : List Channel) (g new : File) (mask : ℕ) → new ≡ file_kept i g old → mask ≡ free_after t.free old new
      → ◌≡◌ {A = State} (record { m = t.m; w = t.w; frozen = t.frozen; channels = cs; files = set t.files k new; free = mask; routines = t.routines })
      (with_file (record { m = t.m; w = t.w; frozen = t.frozen; channels = cs; files = t.files; free = t.free; routines = t.routines }) i g)
  unfolding with_file file_kept
  file_stored cs g new mask e e₃ =
      ap₂ (λ (fs : List File) (n : ℕ). record { m = t.m; w = t.w; frozen = t.frozen; channels = cs; files = fs; free = n; routines = t.routines })
      (place_stored t.files file_count i k d₁ old counts.files place read g new e)
      (e₃ ∙ ap (free_after t.free old) e ∙ mask_is g)

  -- ---- the channel that a frame concerns, read at its place l

  module _ (frame : Frame) (l : ℕ) (d₂ was : Channel) (place₂ : l ≡ place_of (channel_for frame i old) channel_count) (read₂ : was ≡ get_or t.channels l d₂) where
    number_is : channel_for frame i old ≡ channel_number frame (file_at t i).channel
    unfolding channel_for
    number_is = ap (λ (g : File). channel_number frame g.channel) file_is

    pub channel_is : channel_or (channel_for frame i old) was ≡ channel_at t (channel_number frame (file_at t i).channel)
    unfolding channel_or
    channel_is =
        place_read t.channels channel_count (channel_for frame i old) l d₂ was counts.channels place₂ read₂ no_channel (channel_or (channel_for frame i old) was) refl
        ∙ ap (channel_at t) number_is

    pub channel_stored : (c kept : Channel) → kept ≡ channel_kept (channel_for frame i old) c was
        → set t.channels l kept ≡ set t.channels (channel_number frame (file_at t i).channel) c
    unfolding channel_kept
    channel_stored c kept e =
        place_stored t.channels channel_count (channel_for frame i old) l d₂ was counts.channels place₂ read₂ c kept e
        ∙ ap (λ (x : ℕ). set t.channels x c) number_is

-- ---- the three groups of frames that concern a file

module _ (unsound : Bool) (t : State) (area words : List ℕ) (frame : Frame) (counts : Counts t) (i k : ℕ) (d₁ old : File) (number : i ≡ named_file frame)
    (place : k ≡ place_of i file_count) (read : old ≡ get_or t.files k d₁) where
  file_named_lem : file_or i old ≡ file_at t (named_file frame)
  file_named_lem = file_is t counts i k d₁ old place read ∙ ap (file_at t) number

  told_as : (x y : Told) (mask : ℕ) → x ≡ told_at i old y → mask ≡ free_after t.free old x.file
      → turned_is x.answer x.start x.count (record { m = t.m; w = t.w; frozen = t.frozen; channels = t.channels; files = set t.files k x.file; free = mask; routines = t.routines })
      ≡ turned_is y.answer y.start y.count (with_file t (named_file frame) y.file)
  unfolding told_at
  told_as x y mask e e₃ =
      ap (turned_is x.answer x.start x.count)
      (file_stored t counts i k d₁ old place read t.channels y.file x.file mask (ap (λ (z : Told). z.file) e) e₃ ∙ ap (λ (n : ℕ). with_file t n y.file) number)
      ∙ ap (λ (z : Told). turned_is z.answer z.start z.count (with_file t (named_file frame) y.file)) e

  pub record_turned : (x : Told) (mask : ℕ) → x ≡ record_at unsound t.m t.w frame i old area words → mask ≡ free_after t.free old x.file
      → turned_is x.answer x.start x.count (record { m = t.m; w = t.w; frozen = t.frozen; channels = t.channels; files = set t.files k x.file; free = mask; routines = t.routines })
      ≡ record_turn unsound t area frame words
  unfolding record_at record_turn
  record_turned x mask e e₃ =
      told_as x (record_of unsound t.m t.w frame (file_or i old) area words) mask e e₃
      ∙ ap (λ (f : File). let y = record_of unsound t.m t.w frame f area words in turned_is y.answer y.start y.count (with_file t (named_file frame) y.file)) file_named_lem

  pub record_moved : (after : List ℕ) → after ≡ record_area unsound t.m t.w frame (file_or i old) area words
      → after ≡ record_area unsound t.m t.w frame (file_at t (named_file frame)) area words
  record_moved after e = e ∙ ap (λ (f : File). record_area unsound t.m t.w frame f area words) file_named_lem

  pub binding_turned : (l : ℕ) (d₂ was : Channel) → l ≡ place_of (channel_for frame i old) channel_count → was ≡ get_or t.channels l d₂
      → (x : Told) (mask : ℕ) → x ≡ binding_at unsound t.w t.free t.files frame i old was → mask ≡ free_after t.free old x.file
      → turned_is x.answer x.start x.count (record { m = t.m; w = t.w; frozen = t.frozen; channels = t.channels; files = set t.files k x.file; free = mask; routines = t.routines })
      ≡ binding_turn unsound t frame
  unfolding binding_at binding_turn
  binding_turned l d₂ was place₂ read₂ x mask e e₃ =
      told_as x (binding_of unsound t.w t.free t.files frame (file_or i old) (channel_or (channel_for frame i old) was)) mask e e₃
      ∙ ap₂ (λ (f : File) (c : Channel). let y = binding_of unsound t.w t.free t.files frame f c in turned_is y.answer y.start y.count (with_file t (named_file frame) y.file))
      file_named_lem (channel_is t counts i k d₁ old place read frame l d₂ was place₂ read₂ ∙ ap (λ (n : ℕ). channel_at t (channel_number frame (file_at t n).channel)) number)

module _ (unsound : Bool) (t : State) (area words : List ℕ) (frame : Frame) (counts : Counts t) (i k : ℕ) (d₁ old : File) (number : i ≡ file_number frame t.files)
    (place : k ≡ place_of i file_count) (read : old ≡ get_or t.files k d₁) (l : ℕ) (d₂ was : Channel)
    (place₂ : l ≡ place_of (channel_for frame i old) channel_count) (read₂ : was ≡ get_or t.channels l d₂) where
  abbrev own : ℕ
  own = channel_number frame (file_at t (file_number frame t.files)).channel

  file_concerned : file_or i old ≡ file_at t (file_number frame t.files)
  file_concerned = file_is t counts i k d₁ old place read ∙ ap (file_at t) number

  channel_concerned : channel_or (channel_for frame i old) was ≡ channel_at t own
  channel_concerned = channel_is t counts i k d₁ old place read frame l d₂ was place₂ read₂ ∙ ap (λ (n : ℕ). channel_at t (channel_number frame (file_at t n).channel)) number

  both_stored : (y : Change) (new : File) (kept : Channel) (mask : ℕ) → new ≡ file_kept i y.file old → kept ≡ channel_kept (channel_for frame i old) y.channel was
      → mask ≡ free_after t.free old new
      → ◌≡◌ {A = State} (record { m = t.m; w = t.w; frozen = t.frozen; channels = set t.channels l kept; files = set t.files k new; free = mask; routines = t.routines })
      (with_file (with_channel t own y.channel) (file_number frame t.files) y.file)
  unfolding with_channel
  both_stored y new kept mask e e₂ e₃ =
      file_stored t counts i k d₁ old place read (set t.channels l kept) y.file new mask e e₃
      ∙ ap₂ (λ (cs : List Channel) (n : ℕ). with_file (record { m = t.m; w = t.w; frozen = t.frozen; channels = cs; files = t.files; free = t.free; routines = t.routines }) n y.file)
      (channel_stored t counts i k d₁ old place read frame l d₂ was place₂ read₂ y.channel kept e₂ ∙ ap (λ (n : ℕ). set t.channels (channel_number frame (file_at t n).channel) y.channel) number) number

  abbrev unit : ℕ
  unit = unit_number frame (file_at t (file_number frame t.files)).unit

  own_is : channel_for frame i old ≡ own
  unfolding channel_for
  own_is = ap (λ (f : File). channel_number frame f.channel) file_concerned

  unit_is : unit_for frame i old ≡ unit
  unfolding unit_for
  unit_is = ap (λ (f : File). unit_number frame f.unit) file_concerned

  -- the post `stood` is that of the frame's unit, and `after` are the routines once what the call leaves there is stored
  pub request_turned : (stood : Post) (x : Change) (mask : ℕ) (after : Routines) → stood ≡ post_at t.routines (channel_for frame i old) (unit_for frame i old)
      → x ≡ request_at unsound t.m t.w t.frozen frame i old was stood area words → mask ≡ free_after t.free old x.file
      → after ≡ posted_in t.routines t.frozen (channel_for frame i old) (unit_for frame i old) x.post x.looks
      → turned_is x.answer x.start x.count
      (record { m = t.m; w = t.w; frozen = t.frozen; channels = set t.channels l x.channel; files = set t.files k x.file; free = mask; routines = after })
      ≡ request_turn unsound t area frame words
  unfolding request_at request_turn change_at with_routines
  request_turned stood x mask after ep e e₃ ea =
      let y = request_of unsound t.m t.w t.frozen frame (file_or i old) (channel_or (channel_for frame i old) was) stood area words in
      let turn : Change → Turned = λ (z : Change). turned_is z.answer z.start z.count
      (with_routines (with_file (with_channel t own z.channel) (file_number frame t.files) z.file) (posted_in t.routines t.frozen own unit z.post z.looks)) in
      ap (λ (s : State). turned_is x.answer x.start x.count (with_routines s after))
      (both_stored y x.file x.channel mask (ap (λ (z : Change). z.file) e) (ap (λ (z : Change). z.channel) e) e₃)
      ∙ ap (λ (r : Routines). turned_is x.answer x.start x.count (with_routines (with_file (with_channel t own y.channel) (file_number frame t.files) y.file) r))
      (ea ∙ ap₂ (λ (c u : ℕ). posted_in t.routines t.frozen c u x.post x.looks) own_is unit_is)
      ∙ ap (λ (z : Change). turned_is z.answer z.start z.count
      (with_routines (with_file (with_channel t own y.channel) (file_number frame t.files) y.file) (posted_in t.routines t.frozen own unit z.post z.looks))) e
      ∙ ap₂ (λ (f : File) (c : Channel). turn (request_of unsound t.m t.w t.frozen frame f c stood area words)) file_concerned channel_concerned
      ∙ ap (λ (p : Post). turn (request_of unsound t.m t.w t.frozen frame (file_at t (file_number frame t.files)) (channel_at t own) p area words))
      (ep ∙ ap₂ (λ (c u : ℕ). post_at t.routines c u) own_is unit_is)

  pub request_moved : (after : List ℕ) → after ≡ request_area unsound t.m t.w frame (file_or i old) (channel_or (channel_for frame i old) was) area words
      → after ≡ request_area_on unsound t area frame words
  unfolding request_area_on
  request_moved after e = e ∙ ap₂ (λ (f : File) (c : Channel). request_area unsound t.m t.w frame f c area words) file_concerned channel_concerned
