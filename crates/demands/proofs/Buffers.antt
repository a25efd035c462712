-- Demand 2 on buffers: a close frees what its file held, an open takes the lowest free ones, a report is booked to its own file.
-- Assumes nothing.
use mathlib.Core.Path.{◌≡◌, refl, sym, ap, subst, ◌∙◌}
use mathlib.Core.Bool.{Bool, true, false, not, ◌&&◌}
use mathlib.Core.List.{List}
use Prim.Native.Nat.{ℕ, ◌+◌, ◌^◌, ◌<◌}
use native.Mathlib.Decide.{ℕ_discrete}
use native.Mathlib.Omega.{arith}
use borrow.Author.Tests.{lt-ltb, eqb-true}
use lib.Dec.{ltb, eqb}
use Rattle.area.specs.Masks.{bit_at}
use Rattle.area.proofs.Masks.{own_bit, mask_lt}
use Rattle.area.proofs.Bools.{at_any}
use Rattle.area.proofs.Walks.{true_not_false, and_left, and_right, and_both, or_either}
use Rattle.area.proofs.Marks.{cond_true}
use Rattle.file.specs.declared.File.{File}
use Rattle.file.specs.Sizes.{opened_file, closed_file}
use Rattle.pool.specs.Free.{buffer_limit, held_by, is_held, is_free, Lowest}
use Rattle.state_sound.proofs.Shares.{apart_holds, held_inside}
use Rattle.state_sound.proofs.Everywhere.{place_inside}
use Rattle.state.specs.declared.State.{State}
use Rattle.state.specs.Places.{file_at}
use Rattle.state_sound.specs.Soundness.{sound}
use Rattle.state_sound.proofs.Facts.{sound_facts}
use Rattle.state_sound.proofs.Buffers.{few_buffers, held_once, mask_right_lem, free_and_held}
use Rattle.pack_open.specs.Open.{open_by}
use Rattle.pack_open.proofs.OpenTheorems.{low_of, high_of, open_lowest, open_next, open_file, open_sound_lem}
use Rattle.pack_open.specs.Close.{close_by}
use Rattle.pack_open.proofs.CloseTheorems.{close_good, close_sound, close_frame, close_frees}
use Rattle.pack_request.specs.Calls.{file_of}
use Rattle.pack_request.proofs.ReportTheorems.{report_books_own}
use Rattle.pack.specs.Calls.{opening, close, report, answer_of}
use Rattle.pack.proofs.Kept.{Good}
use Rattle.demands.specs.Demands.{Holds, Frees, Takes, Books}

-- the mask of a sound state, bit by bit
mask_bits : (s : State) → sound s ≡ true → (b : ℕ) → b < buffer_limit → bit_at s.free b ≡ (ltb b s.m && is_free s.files b)
mask_bits s h b l = ap (λ (k : ℕ). bit_at k b) (mask_right_lem s h) ∙ own_bit (λ b. ltb b s.m && is_free s.files b) buffer_limit b l

pub good_holds : (s : State) → Good s → Holds s
good_holds s g = record {
  right = g.right;
  once = held_once s g.right;
  all = free_and_held s g.right;
  mask = mask_bits s g.right;
  above = subst (λ (k : ℕ). k < 2 ^ buffer_limit) (sym (mask_right_lem s g.right)) (mask_lt (λ b. ltb b s.m && is_free s.files b) buffer_limit 0);
}

-- what an open file of a sound state holds is one of its m buffers, and those are few enough for the mask
held_below : (s : State) → sound s ≡ true → (file b : ℕ) → held_by b (file_at s file) ≡ true → (b < s.m) × (b < buffer_limit)
held_below s h file b p =
    let F = sound_facts s h in
    let l = held_inside s.m s.w (file_at s file) b (F.files file (and_left (file_at s file).opened _ p)) p in
    (l, omega (arith, l, few_buffers s.m s.w F.pool))

free_set : (s : State) → sound s ≡ true → (b : ℕ) → b < s.m → b < buffer_limit → is_free s.files b ≡ true → bit_at s.free b ≡ true
free_set s h b l k e = mask_bits s h b k ∙ and_both (ltb b s.m) _ (lt-ltb b s.m l) e

held_clear : (s : State) → sound s ≡ true → (file b : ℕ) → held_by b (file_at s file) ≡ true → bit_at s.free b ≡ false
held_clear s h file b p =
    mask_bits s h b (held_below s h file b p).1
    ∙ none (ltb b s.m) (is_held s.files b)
    (at_any (held_by b) closed_file s.files file (place_inside s.files closed_file (λ (f : File). f.opened) refl file (and_left (file_at s file).opened _ p)) p)
  where
    none : (a c : Bool) → c ≡ true → (a && not c) ≡ false
    none true c e = ap not e
    none false c e = refl

pub closed_frees : (s : State) (area : List ℕ) (file : ℕ) → (answer_of s area (close file)).refusal ≡ 0
    → Frees s file (answer_of s area (close file)).state
unfolding answer_of
closed_frees s area file e = record {
  free = close_frees s file e;
  bits = λ b p.
      let l = held_below s (close_good s file e) file b p in
      free_set (close_by s file).state (close_sound s file e) b (omega (arith, l.0, (close_frame s file).m)) l.1 (close_frees s file e b p);
}

-- two open files of a sound state hold no buffer in common
pub held_alone : (s : State) → sound s ≡ true → (b i j : ℕ) → held_by b (file_at s j) ≡ true → held_by b (file_at s i) ≡ true → i ≡ j
held_alone s h b i j p q = go (ℕ_discrete i j)
  where
    go : Dec (i ≡ j) → i ≡ j
    go (yes e) = e
    go (no ne) = true_not_false q (apart_holds b (file_at s j) (file_at s i) ((sound_facts s h).apart j i (λ e. ne (sym e))) p)

-- the lowest free ones have their bits set
taken_free : (s : State) → sound s ≡ true → (f : File) (b : ℕ) → Lowest s.m s.files 0 f.low.number
    → (f.double ≡ true → Lowest s.m s.files (f.low.number + 1) f.high.number) → held_by b f ≡ true → bit_at s.free b ≡ true
taken_free s h f b low high p =
    or_either (eqb f.low.number b) (f.double && eqb f.high.number b) (and_right f.opened _ p)
    (λ e. subst (λ (k : ℕ). bit_at s.free k ≡ true) (eqb-true f.low.number b e) (set_at f.low.number low.below low.free))
    (λ e.
    let H = high (and_left f.double _ e) in
    subst (λ (k : ℕ). bit_at s.free k ≡ true) (eqb-true f.high.number b (and_right f.double _ e)) (set_at f.high.number H.below H.free))
  where
    set_at : (k : ℕ) → k < s.m → is_free s.files k ≡ true → bit_at s.free k ≡ true
    set_at k l e = free_set s h k l (omega (arith, l, few_buffers s.m s.w (sound_facts s h).pool)) e

pub opened_takes : (s : State) (area : List ℕ) (file channel unit flags size rlen : ℕ) → Good s
    → (answer_of s area (opening file channel unit flags size rlen)).refusal ≡ 0
    → Takes s file (answer_of s area (opening file channel unit flags size rlen)).state
unfolding answer_of opened_file
opened_takes s area file channel unit flags size rlen g e =
    let f = open_file s file channel unit flags size rlen e g.sixteen in
    let first = subst (λ (x : File). Lowest s.m s.files 0 x.low.number) (sym f) (open_lowest s file channel unit flags size rlen e) in
    let second =
    subst (λ (x : File). x.double ≡ true → Lowest s.m s.files (x.low.number + 1) x.high.number) (sym f)
    (λ d. subst (Lowest s.m s.files (low_of s + 1)) (sym (cond_true (high_of s) 0 d)) (open_next s file channel unit flags size rlen e d)) in
    record {
      low = first;
      high = second;
      alone =
          λ b i. held_alone (open_by s file channel unit flags size rlen).state (open_sound_lem s file channel unit flags size rlen e g.sixteen) b i
          file;
      bits =
          λ b p. (
            taken_free s g.right (file_at (open_by s file channel unit flags size rlen).state file) b first second p,
            held_clear (open_by s file channel unit flags size rlen).state (open_sound_lem s file channel unit flags size rlen e g.sixteen) file b p,
          );
    }

pub reported_books : (s : State) (area : List ℕ) (channel unit outcome len : ℕ) (words : List ℕ) → Good s
    → (answer_of s area (report channel unit outcome len words)).refusal ≡ 0
    → Books s channel unit (answer_of s area (report channel unit outcome len words)).state
unfolding answer_of
reported_books s area channel unit outcome len words g e =
    let B = report_books_own s area channel unit outcome len words g.sixteen e in
    record {
      file = file_of s channel unit;
      works = B.works;
      bound = B.bound;
      only = B.only;
      files = B.others.files;
      channels = B.others.channels;
    }
