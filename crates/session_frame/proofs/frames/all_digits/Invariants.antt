use mathlib.Core.Path.{◌≡◌}
use mathlib.Core.Bool.{◌&&◌}
use lib.ListN.{drop}
use Rattle.area.specs.Lists.{all_of}
use Rattle.session_frame.specs.Digits.{is_digit}
use Rattle.session_frame.proofs.frames.all_digits.Given as goal

abbrev pub invariant-loop-c : goal.invariant-loop-c
invariant-loop-c l = all_of is_digit l.line ≡ (l.all && all_of is_digit (drop l.c-index l.line))
