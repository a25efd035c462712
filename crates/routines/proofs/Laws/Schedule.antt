-- Laws of a look and of a return: the two cases of each, and the push-down list after it. Assumes nothing.
use mathlib.Core.Path.{◌≡◌, refl}
use mathlib.Core.Bool.{Bool, true, false, not, cond}
use mathlib.Core.List.{◌∷◌}
use Prim.Native.Nat.{◌-◌, ◌<◌}
use native.Mathlib.Nat.{le_refl}
use borrow.Author.Tests.{ltb-true}
use lib.Dec.{ltb}
use lib.ListN.{length}
use Rattle.area.proofs.Walks.{by_test, and_left, and_right}
use Rattle.routines.specs.declared.Program.{Program}
use Rattle.routines.specs.declared.Programs.{Programs}
use Rattle.routines.specs.declared.Scheduled.{Scheduled}
use Rattle.routines.specs.Ranks.{depth, main_program, list_of}
use Rattle.routines.specs.Schedule.{enters, interrupted_by, look_of, last_pushed, enters_on_return, replaced_by, resumed_of, given_back}
use Rattle.routines.proofs.Laws.Lists.{under_set, under_push, under_last}

-- ---- a look

module _ (p : Programs) (frozen : Bool) (best : Program) where
  pub look_enters : enters p frozen best ≡ true → look_of p frozen best ≡ record { entered = true; programs = interrupted_by p best }
  unfolding look_of
  look_enters e = rw e

  pub look_stays : enters p frozen best ≡ false → look_of p frozen best ≡ record { entered = false; programs = p }
  unfolding look_of
  look_stays e = rw e

  -- what holds of both cases holds of a look
  pub by_look : (P : Scheduled → Type 0) → (enters p frozen best ≡ true → P (record { entered = true; programs = interrupted_by p best })) → (enters p frozen best ≡ false → P (record { entered = false; programs = p })) → P (look_of p frozen best)
  unfolding look_of
  by_look P goes stays = by_test (λ t. P (cond t (record { entered = true; programs = interrupted_by p best }) (record { entered = false; programs = p }))) (enters p frozen best) goes stays

  -- it enters only if it is above what runs, nothing is frozen and the list has room
  pub enters_above : enters p frozen best ≡ true → p.running.rank < best.rank
  unfolding enters
  enters_above e = ltb-true p.running.rank best.rank (and_left (ltb p.running.rank best.rank) _ (and_right (not frozen) _ e))

  pub enters_room : enters p frozen best ≡ true → p.count < depth
  unfolding enters
  enters_room e = ltb-true p.count depth (and_right (ltb p.running.rank best.rank) _ (and_right (not frozen) _ e))

-- "while frozen nothing enters"
pub frozen_enters : (p : Programs) (best : Program) → enters p true best ≡ false
unfolding enters
frozen_enters p best = refl

-- "the interrupted one goes on a push-down list"
pub list_interrupted : (p : Programs) (best : Program) → p.count < length p.pushed → list_of (interrupted_by p best) ≡ p.running ∷ list_of p
unfolding interrupted_by
list_interrupted p best h = under_push p.pushed p.count p.running h

-- ---- a return

module _ (p : Programs) (frozen : Bool) (best : Program) where
  pub back_enters : enters_on_return p frozen best ≡ true → given_back p frozen best ≡ record { entered = true; programs = replaced_by p best }
  unfolding given_back
  back_enters e = rw e

  pub back_resumes : enters_on_return p frozen best ≡ false → given_back p frozen best ≡ record { entered = false; programs = resumed_of p }
  unfolding given_back
  back_resumes e = rw e

  pub by_back : (P : Scheduled → Type 0) → (enters_on_return p frozen best ≡ true → P (record { entered = true; programs = replaced_by p best })) → (enters_on_return p frozen best ≡ false → P (record { entered = false; programs = resumed_of p })) → P (given_back p frozen best)
  unfolding given_back
  by_back P goes stays = by_test (λ t. P (cond t (record { entered = true; programs = replaced_by p best }) (record { entered = false; programs = resumed_of p }))) (enters_on_return p frozen best) goes stays

  pub back_above : enters_on_return p frozen best ≡ true → (last_pushed p).rank < best.rank
  unfolding enters_on_return
  back_above e = ltb-true (last_pushed p).rank best.rank (and_right (not frozen) _ e)

-- in a freeze a return resumes
pub frozen_returns : (p : Programs) (best : Program) → given_back p true best ≡ record { entered = false; programs = resumed_of p }
unfolding given_back enters_on_return
frozen_returns p best = refl

-- "that program resumes": it was the last one pushed, and leaves the list as it was before that push
pub list_resumed : (p : Programs) → 0 < p.count → list_of p ≡ (resumed_of p).running ∷ list_of (resumed_of p)
unfolding resumed_of
list_resumed p h =
    let rest = under_set p.pushed (p.count - 1) main_program (p.count - 1) (le_refl _) in
    rw rest (under_last p.pushed p.count h)
