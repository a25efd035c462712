-- When what runs, the push-down list and what waits are as they may be: what document 01's "A state passed back by the caller is sound if .." comes to
-- for M-110. Which units are declared, and which have a request, is told by those who know the units. Assumes nothing.
use Rattle.std.specs.Prelude.{ℕ, Bool, not, ◌&&◌, ◌||◌, List, [], ◌∷◌, ltb, leb, eqb, length, drop}
use Rattle.area.specs.Lists.{all_of}
use Rattle.area.specs.Numbered.{all_from}
use Rattle.channel.specs.Units.{unit_count, channel_count}
use Rattle.routines.specs.declared.Due.{Due}
use Rattle.routines.specs.declared.Program.{Program}
use Rattle.routines.specs.declared.Programs.{Programs}
use Rattle.routines.specs.declared.Post.{Post}
use Rattle.routines.specs.declared.Posts.{Posts}
use Rattle.routines.specs.declared.Routines.{Routines}
use Rattle.routines.specs.Ranks.{depth, top_rank, is_main, is_due, list_of}
use Rattle.routines.specs.Waits.{highest}
use Rattle.routines.specs.Posts.{waits_of}

-- levels in range, and zero where nothing is meant
abbrev pub due_right : Due → Bool
due_right d = leb d.rank top_rank && (ltb 0 d.rank || eqb d.routine 0)

abbrev pub program_right : Program → Bool
program_right p = leb p.rank top_rank && (ltb 0 p.rank || (eqb p.channel 0 && (eqb p.unit 0 && eqb p.routine 0)))

-- priorities rise strictly from the bottom of the list to what runs, the main program at the bottom exactly if a routine runs
unfoldable pub descends : Program → List Program → Bool
descends above [] = is_main above
descends above (x ∷ xs) = ltb x.rank above.rank && descends x xs

-- four places, of which at most four hold a program, and nothing past the end of the list
unfoldable pub programs_right : Programs → Bool
programs_right p =
    eqb (length p.pushed) depth
    && (leb p.count depth
    && (program_right p.running && (all_of program_right p.pushed && (all_of is_main (drop p.count p.pushed) && descends p.running (list_of p)))))

-- if nothing is frozen, no waiting routine is above what runs unless the list is full
unfoldable pub is_settled : Programs → Bool → Program → Bool
is_settled p frozen best = frozen || (leb depth p.count || leb best.rank p.running.rank)

-- ---- the units of routines, where `declared` tells which are declared

abbrev pub unit_known : (ℕ → ℕ → Bool) → Program → Bool
unit_known declared p = is_main p || declared p.channel p.unit

unfoldable pub units_known : (ℕ → ℕ → Bool) → Programs → Bool
units_known declared p = unit_known declared p.running && all_of (unit_known declared) p.pushed

-- ---- the posts of the units, where `asked` tells which units have a request

-- levels in range; only a request names a routine; "a waiting routine's unit is declared and has no request"
unfoldable pub post_right : Bool → Bool → Post → Bool
post_right declared asked x = (due_right x.named && due_right x.due) && ((not (is_due x.named) || asked) && (not (is_due x.due) || (declared && not asked)))

-- a post for each unit of a channel
unfoldable pub posts_right : (ℕ → Bool) → (ℕ → Bool) → Posts → Bool
posts_right declared asked p = eqb (length p.units) unit_count && all_from (λ (u : ℕ) (x : Post). post_right (declared u) (asked u) x) 0 p.units

-- what runs, the push-down list, the posts of every channel, and nothing left to enter
unfoldable pub routines_right : (ℕ → ℕ → Bool) → (ℕ → ℕ → Bool) → Bool → Routines → Bool
routines_right declared asked frozen r =
    programs_right r.programs
    && (units_known declared r.programs
    && (eqb (length r.posts) channel_count
    && (all_from (λ (c : ℕ) (p : Posts). posts_right (declared c) (asked c) p) 0 r.posts
    && is_settled r.programs frozen (highest (waits_of r)))))
