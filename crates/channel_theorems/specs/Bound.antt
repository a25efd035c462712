-- Both bounds are met exactly: histories in which the answer is the last report that the bound of demand 3, and of M-112, allows. Assumes nothing.
use Rattle.std.specs.Prelude.{true, false, List, [], ◌∷◌, ◌++◌, replicate, ℕ}
use Rattle.channel.specs.declared.Op.TheVariants.{Read}
use Rattle.channel_outcomes.specs.Rules.{good, redundancy, most_noise, no_length}
use Rattle.channel_theorems.specs.History.{Station, Event, ask, report, fresh, run}

-- the reports of one read that takes as many as it can: "At most 100 are passed in one operation" (M-106), and 101 failures
abbrev pub noises : ℕ → List Event
noises u = replicate most_noise (report u redundancy 0)

abbrev pub failures : ℕ → ℕ → List Event
failures u n = replicate n (report u redundancy no_length)

-- 201 × (U + P), with U = 2 and P = 0: two units are declared, 0 and then 1 ask, and no report has been made
unfoldable pub two_ask : Station
two_ask = run (fresh (true ∷ true ∷ [])) (ask 0 Read false ∷ ask 1 Read false ∷ [])

-- 401 reports: each of the two operations passes over as many noise records and fails as often as it can, unit 1 once less
unfoldable pub all_but_one : List Event
all_but_one = (noises 0 ++ failures 0 101) ++ (noises 1 ++ failures 1 100)

-- 201 × U + 1, with U = 3: unit 1 works for an ordinary read while 0 and then 2 ask with priority
unfoldable pub three_ask : Station
three_ask = run (fresh (true ∷ true ∷ true ∷ [])) (ask 1 Read false ∷ ask 0 Read true ∷ ask 2 Read true ∷ [])

-- 603 reports: the ordinary read ends, and unit 1 asks with priority too; then 0, 1 and 2 have their turns, and each of the three operations
-- takes as many reports as it can, that of unit 2 one less
unfoldable pub all_but_last : List Event
all_but_last =
    (report 1 good no_length ∷ ask 1 Read true ∷ [])
    ++ ((noises 0 ++ failures 0 101) ++ ((noises 1 ++ failures 1 101) ++ (noises 2 ++ failures 2 100)))
