-- What holds of every open file and its ledger, where a call changes one file, its buffers, or neither. Assumes nothing.
use mathlib.Core.Path.{◌≡◌, refl, sym, subst, ◌∙◌}
use mathlib.Core.Logic.{◌≢◌}
use mathlib.Core.Bool.{Bool, true, false}
use mathlib.Core.List.{List}
use Prim.Native.Nat.{ℕ, ◌*◌}
use native.Mathlib.Decide.{ℕ_discrete}
use Rattle.area.specs.Parts.{part_of}
use Rattle.area.proofs.Walks.{true_not_false}
use Rattle.file.specs.declared.Side.{Side}
use Rattle.file.specs.declared.File.{File}
use Rattle.file.specs.Sides.{buffer_at}
use Rattle.file_input.specs.Ages.{line}
use Rattle.pool.specs.Free.{held_by}
use Rattle.state_sound.proofs.FileFacts.{Sound}
use Rattle.state_sound.proofs.FilesKept.{owns}
use Rattle.state_sound.proofs.Inside.{held_own}
use Rattle.state_sound.proofs.Shares.{apart_holds}
use Rattle.state.specs.declared.State.{State}
use Rattle.state.specs.Places.{file_at}
use Rattle.state_sound.proofs.Facts.{sound_facts}
use Rattle.pack_record.specs.Only.{Only}
use Rattle.pack_record.proofs.Written.{other_buffer}
use Rattle.pack.proofs.Kept.{Good}
use Rattle.demands_ledger.specs.Ledgers.{Ledger}
use Rattle.demands_ledger.specs.Blocks.{part_in}
use Rattle.demands_ledger.proofs.Told.{Wrote, Brought, Chose, Told}
use Rattle.demands_ledger.proofs.Lines.{unread_same}
use Rattle.demands_ledger.proofs.Sides.{Same, same_self}
use Rattle.demands_ledger.proofs.Writes.{wrote_still, frame_wrote}
use Rattle.demands_ledger.proofs.Brings.{brought_still}

-- ---- one file

-- the ledger with another word on marks
abbrev pub marking : Bool → Ledger → Ledger
marking m L = record {
  opened = L.opened;
  chosen = L.chosen;
  asked = L.asked;
  puts = L.puts;
  seals = L.seals;
  sent = L.sent;
  came = L.came;
  marked = m;
  gone = L.gone;
  owed = L.owed;
}

module _ (w : ℕ) (f g : File) (A : Same f g) (xs : List ℕ) (L : Ledger) where
  abbrev Chosen : File → Type 0
  Chosen h = Chose h L.chosen

  chose_of : Chosen f → Chosen g
  chose_of e = record {
    on_channel = e.on_channel ∙ sym A.channel;
    on_unit = e.on_unit ∙ sym A.unit;
    sequences = e.sequences ∙ sym A.sequence;
    checks = e.checks ∙ sym A.check;
    sizes = e.sizes ∙ sym A.size;
    rlens = e.rlens ∙ sym A.rlen;
  }

  pub told_out : f.output ≡ true → L.opened ≡ f.opened → Chosen f → Wrote w g xs L.puts L.sent L.seals → Told w g xs L
  told_out o e h T = record {
    opened = e ∙ sym A.opened;
    chose = λ p. chose_of h;
    marks = λ p q. true_not_false (A.output ∙ o) q;
    wrote = λ p q. T;
    brought = λ p q. true_not_false (A.output ∙ o) q;
  }

  pub told_in : f.output ≡ false → L.opened ≡ f.opened → Chosen f → L.marked ≡ g.marked → Brought w g xs L.came L.gone L.owed
      → Told w g xs L
  told_in o e h m T = record {
    opened = e ∙ sym A.opened;
    chose = λ p. chose_of h;
    marks = λ p q. m;
    wrote = λ p q. true_not_false q (A.output ∙ o);
    brought = λ p q. T;
  }

  -- nothing that a ledger speaks of changes, but whether a mark was read
  pub told_marked : (m : Bool) → line g ≡ line f → part_in w g xs ≡ part_in w f xs → g.block ≡ f.block
      → (f.opened ≡ true → f.output ≡ false → m ≡ g.marked) → Told w f xs L → Told w g xs (marking m L)
  told_marked m l p n e T = record {
    opened = T.opened ∙ sym A.opened;
    chose = λ o. chose_of (T.chose (sym A.opened ∙ o));
    marks = λ o q. e (sym A.opened ∙ o) (sym A.output ∙ q);
    wrote = λ o q. wrote_still w f g xs xs L.puts L.sent L.seals A (T.wrote (sym A.opened ∙ o) (sym A.output ∙ q)) refl l p n;
    brought = λ o q. brought_still w f g xs xs L.came L.gone L.owed A (T.brought (sym A.opened ∙ o) (sym A.output ∙ q)) refl l n;
  }

  pub told_still : line g ≡ line f → part_in w g xs ≡ part_in w f xs → g.block ≡ f.block → g.marked ≡ f.marked → Told w f xs L → Told w g xs L
  told_still l p n m T = told_marked L.marked l p n (λ o q. T.marks o q ∙ sym m) T

-- a file that is not open
pub told_closed : (w : ℕ) (f : File) (xs : List ℕ) (L : Ledger) → f.opened ≡ false → L.opened ≡ false → Told w f xs L
told_closed w f xs L c e = record {
  opened = e ∙ sym c;
  chose = λ o. true_not_false o c;
  marks = λ o q. true_not_false o c;
  wrote = λ o q. true_not_false o c;
  brought = λ o q. true_not_false o c;
}

-- words beside its buffers change
told_frame : (m w : ℕ) (f : File) (xs zs : List ℕ) (L : Ledger) → (f.opened ≡ true → Sound m w f)
    → (f.opened ≡ true → (k : Side) → owns f k ≡ true → part_of ((buffer_at f k).number * w) w zs ≡ part_of ((buffer_at f k).number * w) w xs)
    → Told w f xs L → Told w f zs L
told_frame m w f xs zs L S same T = record {
  opened = T.opened;
  chose = T.chose;
  marks = T.marks;
  wrote = λ o q. frame_wrote m w f (S o) xs zs L.puts L.sent L.seals (same o) (T.wrote o q);
  brought = λ o q.
      brought_still w f f xs zs L.came L.gone L.owed (same_self f) (T.brought o q) (unread_same m w f (S o) xs zs (λ k p full. same o k p))
      refl refl;
}

-- ---- the whole pack

pub record Kept (s : State) (area : List ℕ) (ledgers : ℕ → Ledger) : Type 0 where
  pub good : Good s
  pub told : (i : ℕ) → Told s.w (file_at s i) area (ledgers i)

-- words of a buffer of file j change, and of no other file's
module _ (s : State) (g : Good s) (j b : ℕ) (held : held_by b (file_at s j) ≡ true) (area zs : List ℕ) (only : Only (b * s.w) s.w area zs) where
  pub others_same : (i : ℕ) → i ≢ j → (file_at s i).opened ≡ true → (k : Side) → owns (file_at s i) k ≡ true
      → part_of ((buffer_at (file_at s i) k).number * s.w) s.w zs ≡ part_of ((buffer_at (file_at s i) k).number * s.w) s.w area
  others_same i ne o k p =
      other_buffer s.w b (buffer_at (file_at s i) k).number area zs only
      (λ e. true_not_false (subst (λ (n : ℕ). held_by n (file_at s i) ≡ true) e (held_own (file_at s i) k o p))
      (apart_holds b (file_at s j) (file_at s i) ((sound_facts s g.right).apart j i (λ q. ne (sym q))) held))

-- a call that changes file j alone
module _ (s t : State) (area zs : List ℕ) (ledgers after : ℕ → Ledger) (K : Kept s area ledgers) (good : Good t) (j : ℕ) (sized : t.w ≡ s.w)
    (others : (i : ℕ) → i ≢ j → file_at t i ≡ file_at s i) (noted : (i : ℕ) → i ≢ j → after i ≡ ledgers i)
    (still : (i : ℕ) → i ≢ j → (file_at s i).opened ≡ true → (k : Side) → owns (file_at s i) k ≡ true
    → part_of ((buffer_at (file_at s i) k).number * s.w) s.w zs ≡ part_of ((buffer_at (file_at s i) k).number * s.w) s.w area) where
  pub kept_file : Told s.w (file_at t j) zs (after j) → Kept t zs after
  kept_file here = record { good = good; told = λ i. subst (λ (w : ℕ). Told w (file_at t i) zs (after i)) (sym sized) (go i (ℕ_discrete i j)) }
    where
      go : (i : ℕ) → Dec (i ≡ j) → Told s.w (file_at t i) zs (after i)
      go i (yes e) = subst (λ (n : ℕ). Told s.w (file_at t n) zs (after n)) (sym e) here
      go i (no ne) =
          subst (λ (f : File). Told s.w f zs (after i)) (sym (others i ne))
          (subst (Told s.w (file_at s i) zs) (sym (noted i ne))
          (told_frame s.m s.w (file_at s i) area zs (ledgers i) (λ o. (sound_facts s K.good.right).files i o) (still i ne) (K.told i)))
