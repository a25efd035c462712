-- `pack::answers::answer` meets its contract, a call each: the group of its answer, and that call's own contract. Assumes nothing.
use mathlib.Core.Path.{refl}
use Rattle.pack.specs.Calls.{answer_of}
use Rattle.pack_record.specs.Gets.{get_words}
use Rattle.pack.proofs.Answering.{plain_as, asked_as, told_as, given_as, returned_as, runs_as}
use Rattle.pack.proofs.answers.answer.Goals as goal

pub returns-in-Fresh : goal.returns-in-Fresh
unfolding answer_of
returns-in-Fresh c = rw c.in-Fresh.is (plain_as _ _ _ refl _ _ c.plain.ensures c.fresh.ensures)

pub returns-in-Open : goal.returns-in-Open
unfolding answer_of
returns-in-Open c = rw c.in-Open.is (plain_as _ _ _ refl _ _ c.plain-in-Open.ensures c.«open».ensures)

pub returns-in-Close : goal.returns-in-Close
unfolding answer_of
returns-in-Close c = rw c.in-Close.is (plain_as _ _ _ refl _ _ c.plain-in-Close.ensures c.close.ensures)

pub returns-in-Ask : goal.returns-in-Ask
unfolding answer_of
returns-in-Ask c = rw c.in-Ask.is (asked_as _ _ _ refl _ _ c.asked.ensures c.ask.ensures)

pub returns-in-Report : goal.returns-in-Report
unfolding answer_of
returns-in-Report c = rw c.in-Report.is (told_as _ _ _ c.report.ensures.area_after _ _ c.told.ensures c.report.ensures.value)

pub returns-in-Get : goal.returns-in-Get
unfolding answer_of get_words
returns-in-Get c = rw c.in-Get.is (given_as _ _ _ refl _ _ c.given.ensures c.get.ensures)

pub returns-in-Put : goal.returns-in-Put
unfolding answer_of
returns-in-Put c = rw c.in-Put.is (plain_as _ _ _ c.put.ensures.area_after _ _ c.plain-in-Put.ensures c.put.ensures.value)

pub returns-in-Seal : goal.returns-in-Seal
unfolding answer_of
returns-in-Seal c = rw c.in-Seal.is (plain_as _ _ _ c.seal.ensures.area_after _ _ c.plain-in-Seal.ensures c.seal.ensures.value)

pub returns-in-Skip : goal.returns-in-Skip
unfolding answer_of
returns-in-Skip c = rw c.in-Skip.is (plain_as _ _ _ refl _ _ c.plain-in-Skip.ensures c.skip.ensures)

pub returns-in-Freeze : goal.returns-in-Freeze
unfolding answer_of
returns-in-Freeze c = rw c.in-Freeze.is (plain_as _ _ _ refl _ _ c.plain-in-Freeze.ensures c.freeze.ensures)

pub returns-in-Thaw : goal.returns-in-Thaw
unfolding answer_of
returns-in-Thaw c = rw c.in-Thaw.is (plain_as _ _ _ refl _ _ c.plain-in-Thaw.ensures c.thaw.ensures)

pub returns-in-Return : goal.returns-in-Return
unfolding answer_of
returns-in-Return c = rw c.in-Return.is (returned_as _ _ _ refl _ _ c.returned.ensures c.give_back.ensures)

pub returns-in-Running : goal.returns-in-Running
unfolding answer_of
returns-in-Running c = rw c.in-Running.is (runs_as _ _ _ refl _ _ c.runs.ensures c.what_runs.ensures)
