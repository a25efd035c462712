-- A file's bytes: they are its own exactly if its truths are 0 or 1 and its buffers' bytes are theirs; and what is judged of them is that the file is sound.
-- Assumes nothing.
use borrow.Author.Tests.{eqb-true, eq-eqb, ne_eqb, leb-true, le-leb, ltb-true, lt-ltb, lt-leb, not-true}
use mir.Val.{bool_byte}
use mathlib.Core.Path.{◌≡◌, refl, sym, ap, ap₂, ◌∙◌, subst}
use mathlib.Core.Bool.{Bool, true, false, not, cond, ◌&&◌, ◌||◌}
use mathlib.Core.List.{List, [], ◌∷◌, ◌++◌}
use Prim.Native.Nat.{ℕ, zero, suc, ◌+◌, ◌/◌, ◌%◌, ◌≤◌, ◌<◌}
use native.Mathlib.Omega.{arith}
use lib.Dec.{eqb, leb, ltb}
use lib.ListN.{length, get_or, take, drop, length-drop}
use lib.Seq.{get_or-drop, drop-drop}
use Rattle.area.specs.Lists.{one_if}
use Rattle.area.proofs.Bools.{each_way}
use Rattle.area.proofs.Walks.{by_test, and_left, and_right, and_both, true_not_false}
use Rattle.area.proofs.Marks.{cond_true, cond_false, unless, unless_so}
use Rattle.word.specs.CheckWords.{block_numbers}
use Rattle.file.specs.declared.Slot.{Slot}
use Rattle.file.specs.declared.Slot.TheVariants.{Empty, Taken, Part, Full}
use Rattle.file.specs.declared.Buffer.{Buffer}
use Rattle.file.specs.declared.File.{File}
use Rattle.file.specs.Sizes.{sizes_fit}
use Rattle.file.specs.Slots.{slot_kind, is_empty, is_taken, is_part, is_full}
use Rattle.state_sound.specs.Files.{taken_count, parts_held, is_no_buffer, open_sound, file_sound, is_blank}
use Rattle.state_sound.proofs.FileFacts as file-facts
use Rattle.state_sound.proofs.FileFacts.{Sound, second_fits}
use Rattle.codec.specs.Codecs.{same, is_tight, matches}
use Rattle.codec.specs.Rows.{two, two_at}
use Rattle.codec.proofs.Tight.{same_split, same_matches}
use Rattle.state_image.specs.Files.{file_row, buffer_bytes, buffer_codec, file_codec}
use Rattle.state_image.proofs.Joined.{first_there, byte_there, two_there}
use Rattle.image_sound.specs.Judging.{slot_right, slot_judged, flags_tight, kinds_right, second_right, is_good_file}
use Rattle.image_sound.proofs.BufferLaws.{both_true, pair_equal, two_tight, and_true}

-- ---- its bytes are its own

flag_tight : (x : ℕ) → eqb (bool_byte (eqb x 1)) x ≡ leb x 1
flag_tight zero = refl
flag_tight (suc zero) = refl
flag_tight (suc (suc x)) =
    let no : eqb (suc (suc x)) 1 ≡ false = ne_eqb (suc (suc x)) 1 (λ e. omega (arith, e)) in
    ap (λ (b : Bool). eqb (bool_byte b) (suc (suc x))) no
    ∙ ne_eqb 0 (suc (suc x)) (λ e. omega (arith, e)) ∙ sym (lt-leb (suc (suc x)) 1 (omega arith))

row_law : (d0 d1 d2 d3 d4 d5 d6 d7 d8 d9 d10 d11 d12 d13 d14 : ℕ) → d9 < 256 → d11 < 256 → d13 < 256
    → (eqb (bool_byte (eqb d0 1)) d0 && (eqb d1 d1 && (eqb d2 d2 && (eqb (bool_byte (eqb d3 1)) d3 && (eqb (bool_byte (eqb d4 1)) d4 && (eqb (bool_byte (eqb d5 1)) d5
    && (eqb (bool_byte (eqb d6 1)) d6 && (eqb (bool_byte (eqb d7 1)) d7 && (eqb (bool_byte (eqb d8 1)) d8 && (eqb (two d9 d10 % 256) d9 && (eqb (two d9 d10 / 256) d10
    && (eqb (two d11 d12 % 256) d11 && (eqb (two d11 d12 / 256) d12 && (eqb (two d13 d14 % 256) d13 && (eqb (two d13 d14 / 256) d14 && true)))))))))))))))
    ≡ (leb d0 1 && (leb d3 1 && (leb d4 1 && (leb d5 1 && (leb d6 1 && (leb d7 1 && leb d8 1))))))
row_law d0 d1 d2 d3 d4 d5 d6 d7 d8 d9 d10 d11 d12 d13 d14 p q r =
    let a = two_tight d9 d10 p in
    let b = two_tight d11 d12 q in
    let c = two_tight d13 d14 r in
    rw (
      flag_tight d0,
      flag_tight d3,
      flag_tight d4,
      flag_tight d5,
      flag_tight d6,
      flag_tight d7,
      flag_tight d8,
      eq-eqb d1 d1 refl,
      eq-eqb d2 d2 refl,
      eq-eqb (two d9 d10 % 256) d9 a.0,
      eq-eqb (two d9 d10 / 256) d10 a.1,
      eq-eqb (two d11 d12 % 256) d11 b.0,
      eq-eqb (two d11 d12 / 256) d12 b.1,
      eq-eqb (two d13 d14 % 256) d13 c.0,
      eq-eqb (two d13 d14 / 256) d14 c.1,
    ) (ap (λ (t : Bool). leb d0 1 && (leb d3 1 && (leb d4 1 && (leb d5 1 && (leb d6 1 && (leb d7 1 && t)))))) (and_true (leb d8 1)))

module _ (ds : List ℕ) (long : 55 ≤ length ds) (small : (i : ℕ) → get_or ds i 0 < 256) where
  abbrev f : File
  f = file_codec.read ds

  own_matches : matches 0 (file_row f f.block) ds ≡ flags_tight ds
  unfolding matches
  own_matches =
      row_law (get_or ds 0 0) (get_or ds 1 0) (get_or ds 2 0) (get_or ds 3 0) (get_or ds 4 0) (get_or ds 5 0) (get_or ds 6 0) (get_or ds 7 0) (get_or ds 8 0) (get_or ds 9 0) (get_or ds 10 0)
      (get_or ds 11 0) (get_or ds 12 0) (get_or ds 13 0) (get_or ds 14 0) (small 9) (small 11) (small 13)

  file_tight : is_tight file_codec ds ≡ (flags_tight ds && (is_tight buffer_codec (drop 15 ds) && is_tight buffer_codec (drop 35 ds)))
  unfolding is_tight
  file_tight =
      let low = buffer_bytes f.low in
      let high = buffer_bytes f.high in
      let left : 20 ≤ length (drop 15 ds) = omega (arith, long, length-drop 15 ds) in
      let own : same (file_row f f.block) (take 15 ds) ≡ flags_tight ds = same_matches 0 (file_row f f.block) ds (omega (arith, long)) ∙ own_matches in
      let two_buffers : same (low ++ high) (take 40 (drop 15 ds)) ≡ (same low (take 20 (drop 15 ds)) && same high (take 20 (drop 35 ds))) =
      same_split low high (drop 15 ds) 20 20 refl left ∙ ap (λ (l : List ℕ). same low (take 20 (drop 15 ds)) && same high (take 20 l)) (drop-drop 20 15 ds) in
      same_split (file_row f f.block) (low ++ high) ds 15 40 refl (omega (arith, long)) ∙ ap₂ (λ (a b : Bool). a && b) own two_buffers

-- ---- what a buffer is judged to hold

kind_empty : (x : Slot) → eqb (slot_kind x) 0 ≡ is_empty x
kind_empty Empty = refl
kind_empty Taken = refl
kind_empty (Part n) = refl
kind_empty (Full n at a) = refl

pub kind_taken : (x : Slot) → eqb (slot_kind x) 1 ≡ is_taken x
kind_taken Empty = refl
kind_taken Taken = refl
kind_taken (Part n) = refl
kind_taken (Full n at a) = refl

kind_part : (x : Slot) → eqb (slot_kind x) 2 ≡ is_part x
kind_part Empty = refl
kind_part Taken = refl
kind_part (Part n) = refl
kind_part (Full n at a) = refl

pub kind_full : (x : Slot) → eqb (slot_kind x) 3 ≡ is_full x
kind_full Empty = refl
kind_full Taken = refl
kind_full (Part n) = refl
kind_full (Full n at a) = refl

kind_small : (x : Slot) → slot_kind x < 4
kind_small Empty = omega arith
kind_small Taken = omega arith
kind_small (Part n) = omega arith
kind_small (Full n at a) = omega arith

taken_law : (a b o : Bool) → (not (a && b) && (not o || not (a || b))) ≡ leb (one_if a + one_if b) (one_if (not o))
taken_law true true true = refl
taken_law true true false = refl
taken_law true false true = refl
taken_law true false false = refl
taken_law false true true = refl
taken_law false true false = refl
taken_law false false true = refl
taken_law false false false = refl

part_law : (a b o : Bool) → (not (a && b) && (o || not (a || b))) ≡ leb (one_if a + one_if b) (one_if o)
part_law true true true = refl
part_law true true false = refl
part_law true false true = refl
part_law true false false = refl
part_law false true true = refl
part_law false true false = refl
part_law false false true = refl
part_law false false false = refl

kinds_law : (x y : Slot) (output turned : Bool)
    → kinds_right (slot_kind x) (slot_kind y) output turned
    ≡ (leb (one_if (is_taken x) + one_if (is_taken y)) (one_if (not output)) && (leb (one_if (is_part x) + one_if (is_part y)) (one_if output) && (not turned || (is_full x && is_full y))))
kinds_law x y output turned =
    rw (kind_taken x, kind_taken y, kind_part x, kind_part y, kind_full x, kind_full y, taken_law (is_taken x) (is_taken y) output, part_law (is_part x) (is_part y) output)

module _ (sequence check output : Bool) (size rlen : ℕ) (bs : List ℕ) where
  slot_good : slot_judged sequence check output size rlen bs < 4
      → (is_tight buffer_codec bs ≡ true) × (slot_right sequence check output size rlen (buffer_codec.read bs).slot ≡ true)
  unfolding slot_judged
  slot_good h =
      let t = is_tight buffer_codec bs in
      let r = slot_right sequence check output size rlen (buffer_codec.read bs).slot in
      let both : (t && r) ≡ true =
      by_test (λ (b : Bool). cond b (slot_kind (buffer_codec.read bs).slot) 4 < 4 → b ≡ true) (t && r) (λ e k. refl) (λ e k. absurd (omega (arith, k))) h in
      (and_left t r both, and_right t r both)

  slot_kind_lem : is_tight buffer_codec bs ≡ true → slot_right sequence check output size rlen (buffer_codec.read bs).slot ≡ true
      → slot_judged sequence check output size rlen bs ≡ slot_kind (buffer_codec.read bs).slot
  unfolding slot_judged
  slot_kind_lem p q = cond_true _ _ (and_both _ _ p q)

-- ---- what is judged of the bytes is that the file is sound

module _ (ds : List ℕ) (long : 55 ≤ length ds) (small : (i : ℕ) → get_or ds i 0 < 256) (m w low high : ℕ) where
  abbrev g : File
  g = file_codec.read ds

  module _ (is_low : low ≡ slot_judged g.sequence g.check g.output g.size g.rlen (drop 15 ds))
      (is-high : high ≡ slot_judged g.sequence g.check g.output g.size g.rlen (drop 35 ds)) where
    abbrev judged : Bool
    judged =
        (flags_tight ds && (ltb low 4 && ltb high 4))
        && ((g.opened && (not g.output || not g.marked))
        && ((sizes_fit w g.sequence g.check g.size g.rlen && ltb g.block block_numbers)
        && (ltb g.low.number m && (second_right m g.double g.low.number g.high.number high && kinds_right low high g.output g.turned))))

    second_law : high ≡ slot_kind g.high.slot → second_right m g.double g.low.number g.high.number high ≡ second_fits m g
    second_law e =
        ap (λ (b : Bool). cond g.double (ltb g.low.number g.high.number && ltb g.high.number m) (eqb g.high.number 0 && b))
        (ap (λ (k : ℕ). eqb k 0) e ∙ kind_empty g.high.slot)

    good_file : judged ≡ true → is_good_file m w ds ≡ true
    unfolding is_good_file file_sound
    good_file e =
        let p = and_left (flags_tight ds && (ltb low 4 && ltb high 4)) _ e in
        let q = and_right (flags_tight ds && (ltb low 4 && ltb high 4)) _ e in
        let kl = and_right (flags_tight ds) _ p in
        let L = slot_good g.sequence g.check g.output g.size g.rlen (drop 15 ds) (subst (λ (n : ℕ). n < 4) is_low (ltb-true low 4 (and_left (ltb low 4) _ kl))) in
        let H = slot_good g.sequence g.check g.output g.size g.rlen (drop 35 ds) (subst (λ (n : ℕ). n < 4) is-high (ltb-true high 4 (and_right (ltb low 4) _ kl))) in
        let el : low ≡ slot_kind g.low.slot = is_low ∙ slot_kind_lem g.sequence g.check g.output g.size g.rlen (drop 15 ds) L.0 L.1 in
        let eh : high ≡ slot_kind g.high.slot = is-high ∙ slot_kind_lem g.sequence g.check g.output g.size g.rlen (drop 35 ds) H.0 H.1 in
        let own = and_left (g.opened && (not g.output || not g.marked)) _ q in
        let is_open : g.opened ≡ true = and_left g.opened _ own in
        let q₂ = and_right (g.opened && (not g.output || not g.marked)) _ q in
        let nums = and_left (sizes_fit w g.sequence g.check g.size g.rlen && ltb g.block block_numbers) _ q₂ in
        let q₃ = and_right (sizes_fit w g.sequence g.check g.size g.rlen && ltb g.block block_numbers) _ q₂ in
        let q₄ = and_right (ltb g.low.number m) _ q₃ in
        let second = and_left (second_right m g.double g.low.number g.high.number high) _ q₄ in
        let kinds = sym (ap₂ (λ (a b : ℕ). kinds_right a b g.output g.turned) el eh ∙ kinds_law g.low.slot g.high.slot g.output g.turned)
        ∙ and_right (second_right m g.double g.low.number g.high.number high) _ q₄ in
        let k₂ = and_right (leb (taken_count g) (one_if (not g.output))) _ kinds in
        let S : Sound m w g = record {
          sizes = and_left (sizes_fit w g.sequence g.check g.size g.rlen) _ nums;
          number = ltb-true g.block block_numbers (and_right (sizes_fit w g.sequence g.check g.size g.rlen) _ nums);
          first = ltb-true g.low.number m (and_left (ltb g.low.number m) _ q₃);
          second = sym (second_law eh) ∙ second;
          low = L.1;
          high = H.1;
          taken = leb-true (taken_count g) (one_if (not g.output)) (and_left (leb (taken_count g) (one_if (not g.output))) _ kinds);
          part = leb-true (parts_held g) (one_if g.output) (and_left (leb (parts_held g) (one_if g.output)) _ k₂);
          order = unless g.turned _ (and_right (leb (parts_held g) (one_if g.output)) _ k₂);
          mark = λ o. not-true g.marked (unless g.output _ (and_right g.opened _ own) o);
        } in
        let sound : open_sound m w g ≡ true = sym (cond_true (open_sound m w g) (is_blank g) is_open) ∙ file-facts.sound m w g is_open S in
        and_both _ _ (file_tight ds long small ∙ and_both _ _ (and_left (flags_tight ds) _ p) (and_both _ _ L.0 H.0)) (and_both _ _ is_open sound)

    file_good : is_good_file m w ds ≡ true → judged ≡ true
    unfolding is_good_file file_sound
    file_good e =
        let t : (flags_tight ds && (is_tight buffer_codec (drop 15 ds) && is_tight buffer_codec (drop 35 ds))) ≡ true =
        sym (file_tight ds long small) ∙ and_left (is_tight file_codec ds) _ e in
        let bufs = and_right (flags_tight ds) _ t in
        let is_open : g.opened ≡ true = and_left g.opened _ (and_right (is_tight file_codec ds) _ e) in
        let sound : open_sound m w g ≡ true = and_right g.opened _ (and_right (is_tight file_codec ds) _ e) in
        let S = file-facts.facts m w g (cond_true (open_sound m w g) (is_blank g) is_open ∙ sound) is_open in
        let el : low ≡ slot_kind g.low.slot =
        is_low ∙ slot_kind_lem g.sequence g.check g.output g.size g.rlen (drop 15 ds) (and_left (is_tight buffer_codec (drop 15 ds)) _ bufs) S.low in
        let eh : high ≡ slot_kind g.high.slot =
        is-high ∙ slot_kind_lem g.sequence g.check g.output g.size g.rlen (drop 35 ds) (and_right (is_tight buffer_codec (drop 15 ds)) _ bufs) S.high in
        let kinds : kinds_right low high g.output g.turned ≡ true =
        ap₂ (λ (a b : ℕ). kinds_right a b g.output g.turned) el eh ∙ kinds_law g.low.slot g.high.slot g.output g.turned
        ∙ and_both _ _ (le-leb (taken_count g) (one_if (not g.output)) S.taken)
        (and_both _ _ (le-leb (parts_held g) (one_if g.output) S.part) (unless_so g.turned _ S.order)) in
        and_both _ _ (and_both _ _ (and_left (flags_tight ds) _ t) (and_both _ _ (lt-ltb low 4 (subst (λ (n : ℕ). n < 4) (sym el) (kind_small g.low.slot))) (lt-ltb high 4 (subst (λ (n : ℕ). n < 4) (sym eh) (kind_small g.high.slot)))))
        (and_both _ _ (and_both _ _ is_open (unless_so g.output _ (λ o. ap not (S.mark o))))
        (and_both _ _ (and_both _ _ S.sizes (lt-ltb g.block block_numbers S.number))
        (and_both _ _ (lt-ltb g.low.number m S.first) (and_both _ _ (second_law eh ∙ S.second) kinds))))

    pub judged_good : judged ≡ is_good_file m w ds
    judged_good = each_way judged (is_good_file m w ds) good_file file_good

-- ---- a file at its place, as the code has found it

abbrev judged_by : Bool → ℕ → ℕ → Bool → Bool → Bool → Bool → ℕ → ℕ → ℕ → Bool → Bool → Bool
judged_by flags low high opened output marked sizes number first m second kinds =
    (flags && (ltb low 4 && ltb high 4)) && ((opened && (not output || not marked)) && ((sizes && ltb number block_numbers) && (ltb first m && (second && kinds))))

same_judged : (flags flags' : Bool) (low high : ℕ) (opened opened' output output' marked marked' sizes sizes' : Bool) (number number' first first' m : ℕ) (second second' kinds kinds' : Bool)
    → flags ≡ flags' → opened ≡ opened' → output ≡ output' → marked ≡ marked' → sizes ≡ sizes' → number ≡ number' → first ≡ first' → second ≡ second' → kinds ≡ kinds'
    → judged_by flags low high opened output marked sizes number first m second kinds ≡ judged_by flags' low high opened' output' marked' sizes' number' first' m second' kinds'
same_judged flags flags' low high opened opened' output output' marked marked' sizes sizes' number number' first first' m second second' kinds kinds' a b c d e f g h i =
    rw (a, b, c, d, e, f, g, h, i)

module _ (bs : List ℕ) (at : ℕ) (room : at + 55 ≤ length bs) (small : (i : ℕ) → get_or bs i 0 < 256) (m w : ℕ) where
  abbrev there : List ℕ
  there = drop at bs

  long_there : 55 ≤ length there
  long_there = omega (arith, room, length-drop at bs)

  small_there : (i : ℕ) → get_or there i 0 < 256
  small_there i = subst (λ (n : ℕ). n < 256) (sym (get_or-drop at bs i 0)) (small (at + i))

  truth_there : (k : ℕ) → eqb (get_or bs (at + k) 0) 1 ≡ eqb (get_or there k 0) 1
  truth_there k = ap (λ (n : ℕ). eqb n 1) (byte_there bs at k)

  buffer_there : (k : ℕ) → get_or bs (at + k) 0 ≡ get_or (drop k there) 0 0
  buffer_there k =
      let z : k ≡ k + 0 = omega arith in
      byte_there bs at k ∙ ap (λ (j : ℕ). get_or there j 0) z ∙ sym (get_or-drop k there 0 0)

  pub file_there : (flags sizes kinds second : Bool) (size rlen number low high : ℕ)
      → flags ≡ flags_tight there → size ≡ two_at bs (at + 9) → rlen ≡ two_at bs (at + 11) → number ≡ two_at bs (at + 13)
      → low ≡ slot_judged (eqb (get_or bs (at + 5) 0) 1) (eqb (get_or bs (at + 6) 0) 1) (eqb (get_or bs (at + 3) 0) 1) size rlen (drop (at + 15) bs)
      → high ≡ slot_judged (eqb (get_or bs (at + 5) 0) 1) (eqb (get_or bs (at + 6) 0) 1) (eqb (get_or bs (at + 3) 0) 1) size rlen (drop (at + 35) bs)
      → sizes ≡ sizes_fit w (eqb (get_or bs (at + 5) 0) 1) (eqb (get_or bs (at + 6) 0) 1) size rlen
      → kinds ≡ kinds_right low high (eqb (get_or bs (at + 3) 0) 1) (eqb (get_or bs (at + 7) 0) 1)
      → second ≡ second_right m (eqb (get_or bs (at + 4) 0) 1) (get_or bs (at + 15) 0) (get_or bs (at + 35) 0) high
      → judged_by flags low high (eqb (get_or bs at 0) 1) (eqb (get_or bs (at + 3) 0) 1) (eqb (get_or bs (at + 8) 0) 1) sizes number (get_or bs (at + 15) 0) m second kinds
      ≡ is_good_file m w there
  file_there flags sizes kinds second size rlen number low high ef es er en el eh ez ek ed =
      let size_is : size ≡ two_at there 9 = es ∙ two_there bs at 9 in
      let rlen-is : rlen ≡ two_at there 11 = er ∙ two_there bs at 11 in
      let slot_is : (n : ℕ) (l : List ℕ) → l ≡ drop n there
      → slot_judged (eqb (get_or bs (at + 5) 0) 1) (eqb (get_or bs (at + 6) 0) 1) (eqb (get_or bs (at + 3) 0) 1) size rlen l
      ≡ slot_judged (eqb (get_or there 5 0) 1) (eqb (get_or there 6 0) 1) (eqb (get_or there 3 0) 1) (two_at there 9) (two_at there 11) (drop n there) =
      λ n l e. rw (truth_there 5, truth_there 6, truth_there 3, size_is, rlen-is, e) in
      let low-is = el ∙ slot_is 15 (drop (at + 15) bs) (sym (drop-drop 15 at bs)) in
      let high_is = eh ∙ slot_is 35 (drop (at + 35) bs) (sym (drop-drop 35 at bs)) in
      let sizes-are : sizes ≡ sizes_fit w (eqb (get_or there 5 0) 1) (eqb (get_or there 6 0) 1) (two_at there 9) (two_at there 11) =
      ez ∙ rw (truth_there 5, truth_there 6, size_is, rlen-is) in
      let second_is : second ≡ second_right m (eqb (get_or there 4 0) 1) (get_or (drop 15 there) 0 0) (get_or (drop 35 there) 0 0) high =
      ed ∙ rw (truth_there 4, buffer_there 15, buffer_there 35) in
      let kinds-are : kinds ≡ kinds_right low high (eqb (get_or there 3 0) 1) (eqb (get_or there 7 0) 1) = ek ∙ rw (truth_there 3, truth_there 7) in
      same_judged flags (flags_tight there) low high (eqb (get_or bs at 0) 1) _ (eqb (get_or bs (at + 3) 0) 1) _ (eqb (get_or bs (at + 8) 0) 1) _ sizes _ number _ (get_or bs (at + 15) 0) _ m second _ kinds _
      ef (ap (λ (n : ℕ). eqb n 1) (first_there bs at)) (truth_there 3) (truth_there 8) sizes-are (en ∙ two_there bs at 13) (buffer_there 15) second_is kinds-are
      ∙ judged_good there long_there small_there m w low high low-is high_is
