-- Laws of `reported_routines`: an operation that is repeated leaves the routines, and one that has ended answers its request. Assumes nothing.
use mathlib.Core.Path.{◌≡◌, refl, ap, ◌∙◌}
use mathlib.Core.Bool.{Bool, true, false, cond}
use Prim.Native.Nat.{ℕ}
use Rattle.channel.specs.declared.Position.{Position}
use Rattle.channel.specs.declared.Request.{Request}
use Rattle.channel_outcomes.specs.declared.Ending.{Ending}
use Rattle.channel_outcomes.specs.declared.Ending.TheVariants.{Good, Opposite, MarkRead, MediumEnd, LostRedundancy, LostIncomplete}
use Rattle.channel_outcomes.specs.declared.Verdict.TheVariants.{Repeats, Ends}
use Rattle.channel_outcomes.specs.Positions.{cleaner_due}
use Rattle.channel_outcomes.specs.Rules.{repeated_number, ending_number, result_number}
use Rattle.routines.specs.declared.Routines.{Routines}
use Rattle.routines.specs.Changes.{answered_in}
use Rattle.call_request.specs.Named.{answers_request, reported_routines}

pub repeats_answer : (p : Position) (q : Request) → answers_request (repeated_number p q) ≡ false
unfolding repeated_number
repeats_answer p q = go (cleaner_due p q)
  where
    go : (b : Bool) → answers_request (cond b 7 0) ≡ false
    go true = refl
    go false = refl

pub ends_answer : (e : Ending) → answers_request (ending_number e) ≡ true
ends_answer Good = refl
ends_answer Opposite = refl
ends_answer MarkRead = refl
ends_answer MediumEnd = refl
ends_answer LostRedundancy = refl
ends_answer LostIncomplete = refl

module _ (r : Routines) (frozen : Bool) (c u : ℕ) (p : Position) where
  pub repeats_routines : (q : Request) → reported_routines r frozen c u (result_number p (Repeats q)) ≡ r
  unfolding reported_routines
  repeats_routines q = ap (λ (b : Bool). cond b (answered_in r frozen c u) r) (repeats_answer p q)

  pub ends_routines : (e : Ending) → reported_routines r frozen c u (result_number p (Ends e)) ≡ answered_in r frozen c u
  unfolding reported_routines
  ends_routines e = ap (λ (b : Bool). cond b (answered_in r frozen c u) r) (ends_answer e)

-- "A refusal .. changes nothing": its result is 0
pub refused_routines : (r : Routines) (frozen : Bool) (c u : ℕ) → reported_routines r frozen c u 0 ≡ r
unfolding reported_routines
refused_routines r frozen c u = refl
