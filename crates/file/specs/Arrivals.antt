-- How a full block arrived, and what get has to tell of it (document 01, "Files and buffers"; document 02, M-101 and M-102). Assumes nothing.
use Rattle.std.specs.Prelude.{ℕ, Bool, cond, ◌&&◌, ◌||◌, eqb}
use Rattle.word.specs.declared.Checked.{Checked}
use Rattle.word.specs.Checks.{unchecked, told_check, with_error, is_checked, is_exact, is_unchecked}
use Rattle.file.specs.declared.Arrival.{Arrival}

-- the manual's numbers of errors: 4, "An unrecoverable read error", and 10, "Incomplete word read"
abbrev pub redundancy_error : ℕ
redundancy_error = 4

abbrev pub incomplete_error : ℕ
incomplete_error = 10

-- a block that did not arrive, as one that was sealed: nothing failed, and nothing was checked
abbrev pub no_arrival : Arrival
no_arrival = record { failed = 0; check = unchecked }

-- "get reports error 4 or 10, once, before any check error": the error that get has to tell next, 0 for none
abbrev pub error_due : Arrival → ℕ
error_due a = cond (eqb a.failed 0) a.check.error a.failed

-- what get's answer carries of it: the number of that error, and what was found at delivery
abbrev pub error_told : Arrival → Checked
error_told a = with_error (error_due a) a.check

-- the same after that error was told: "once"
abbrev pub after_told : Arrival → Arrival
after_told a = record { failed = 0; check = cond (eqb a.failed 0) (told_check a.check) a.check }

-- ---- what may stand with a block of a file that has chosen these fields

-- the read error is 0, 4 or 10; "before any check error": while it was not told, nor was the check error
unfoldable pub is_arrival : Bool → Bool → Arrival → Bool
is_arrival sequence check a =
    is_checked sequence check a.check
    && (eqb a.failed 0 || ((eqb a.failed redundancy_error || eqb a.failed incomplete_error) && is_exact sequence check a.check))

-- all zero
abbrev pub is_no_arrival : Arrival → Bool
is_no_arrival a = eqb a.failed 0 && is_unchecked a.check
