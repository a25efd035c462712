-- What stands with the units (document 02, M-110; the manual: "placing its address and priority in the unit control block"): the routine that a unit's request names,
-- and the one that waits there. Assumes nothing.
use Rattle.std.specs.Prelude.{ℕ, Bool, false, ◌&&◌, List, [], map, ltb, get_or, set, replicate}
use Rattle.channel.specs.Units.{unit_count, channel_count}
use Rattle.routines.specs.declared.Due.{Due}
use Rattle.routines.specs.declared.Programs.{Programs}
use Rattle.routines.specs.declared.Naming.{Naming}
use Rattle.routines.specs.declared.Post.{Post}
use Rattle.routines.specs.declared.Posts.{Posts}
use Rattle.routines.specs.declared.Routines.{Routines}
use Rattle.routines.specs.Ranks.{highest_priority, nothing_due, due_named, main_alone}
use Rattle.routines.specs.Waits.{Waits, waits_at}

-- ---- what an ask says

abbrev pub no_naming : Naming
no_naming = record { given = false; routine = 0; level = 0 }

-- "An ask may name a routine and a priority 0 to 4": the priority is none
abbrev pub naming_wrong : Naming → Bool
naming_wrong n = n.given && ltb highest_priority n.level

-- what it names, if it does
abbrev pub due_of : Naming → Due
due_of n = due_named n.given n.level n.routine

-- ---- posts

abbrev pub empty_post : Post
empty_post = record { named = nothing_due; due = nothing_due }

-- what stands past the last channel
abbrev pub no_posts : Posts
no_posts = record { units = [] }

-- "the main program runs", and nothing is named or waits
unfoldable pub no_routines : Routines
no_routines = record { programs = main_alone; posts = replicate channel_count (record { units = replicate unit_count empty_post }) }

-- the post of a unit, an empty one at a number that is no unit's
abbrev pub post_at : Routines → ℕ → ℕ → Post
post_at r c u = get_or (get_or r.posts c no_posts).units u empty_post

-- what waits at each unit
abbrev pub due_in : Post → Due
due_in x = x.due

abbrev pub dues_in : Posts → List Due
dues_in x = map due_in x.units

abbrev pub waits_of : Routines → Waits
waits_of r = map dues_in r.posts

-- "A unit whose routine waits refuses a new ask with 8."
abbrev pub waits_in : Routines → ℕ → ℕ → Bool
waits_in r c u = waits_at (waits_of r) c u

-- the routines with other programs, and with another post at a unit; as they are at a number that is no unit's
abbrev pub with_programs : Routines → Programs → Routines
with_programs r p = record { programs = p; posts = r.posts }

abbrev pub with_unit_post : Posts → ℕ → Post → Posts
with_unit_post p u x = record { units = set p.units u x }

unfoldable pub with_post : Routines → ℕ → ℕ → Post → Routines
with_post r c u x = record { programs = r.programs; posts = set r.posts c (with_unit_post (get_or r.posts c no_posts) u x) }
