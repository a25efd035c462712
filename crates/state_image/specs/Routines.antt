-- The bytes of what runs and was interrupted, and of what stands with each unit (document 02, M-110): a line for each field. Assumes nothing.
use Rattle.std.specs.Prelude.{ℕ, ◌+◌, ◌*◌, List, [], ◌∷◌, ◌++◌, get_or, drop, replicate}
use Rattle.channel.specs.Units.{unit_count, channel_count}
use Rattle.routines.specs.declared.Program.{Program}
use Rattle.routines.specs.declared.Programs.{Programs}
use Rattle.routines.specs.declared.Post.{Post}
use Rattle.routines.specs.declared.Posts.{Posts}
use Rattle.routines.specs.declared.Routines.{Routines}
use Rattle.routines.specs.Ranks.{depth, main_program}
use Rattle.routines.specs.Posts.{empty_post}
use Rattle.codec.specs.Codecs.{Codec, padded}

-- ---- a program: its rank, 0 for the main program, and the channel, the unit and the number of a routine

abbrev pub program_size : ℕ
program_size = 4

abbrev pub program_row : Program → List ℕ
program_row p =
    p.rank
    ∷ p.channel
    ∷ p.unit
    ∷ p.routine
    ∷ []

abbrev pub program_codec : Codec Program
program_codec = record {
  size = program_size;
  write = program_row;
  read = λ bs. record { rank = get_or bs 0 0; channel = get_or bs 1 0; unit = get_or bs 2 0; routine = get_or bs 3 0 };
}

-- ---- what runs and was interrupted: how many are on the push-down list, the program that runs, the four places of the list

abbrev pub pushed_codec : Codec (List Program)
pushed_codec = padded program_codec main_program depth depth

abbrev pub programs_size : ℕ
programs_size = 1 + (program_size + depth * program_size)

abbrev pub programs_codec : Codec Programs
programs_codec = record {
  size = programs_size;
  write = λ p. p.count ∷ (program_row p.running ++ pushed_codec.write p.pushed);
  read = λ bs. record { running = program_codec.read (drop 1 bs); pushed = pushed_codec.read (drop (1 + program_size) bs); count = get_or bs 0 0 };
}

-- ---- what stands with a unit: the routine that its request names, and the one that waits there, each its rank, 0 for none, and its number

abbrev pub post_size : ℕ
post_size = 4

abbrev pub post_row : Post → List ℕ
post_row x =
    x.named.rank
    ∷ x.named.routine
    ∷ x.due.rank
    ∷ x.due.routine
    ∷ []

abbrev pub post_codec : Codec Post
post_codec = record {
  size = post_size;
  write = post_row;
  read = λ bs.
      record {
        named = record { rank = get_or bs 0 0; routine = get_or bs 1 0 };
        due = record { rank = get_or bs 2 0; routine = get_or bs 3 0 };
      };
}

-- those of n units; with units from n on nothing stands
abbrev pub unit_posts_codec : ℕ → Codec (List Post)
unit_posts_codec n = padded post_codec empty_post unit_count n

abbrev pub posts_codec : ℕ → Codec Posts
posts_codec n = record {
  size = n * post_size;
  write = λ p. (unit_posts_codec n).write p.units;
  read = λ bs. record { units = (unit_posts_codec n).read bs };
}

-- those of every channel
abbrev pub empty_posts : Posts
empty_posts = record { units = replicate unit_count empty_post }

abbrev pub all_posts_codec : ℕ → Codec (List Posts)
all_posts_codec n = padded (posts_codec n) empty_posts channel_count channel_count

-- ---- both

abbrev pub routines_size : ℕ → ℕ
routines_size n = programs_size + (all_posts_codec n).size

abbrev pub routines_codec : ℕ → Codec Routines
routines_codec n = record {
  size = routines_size n;
  write = λ r. programs_codec.write r.programs ++ (all_posts_codec n).write r.posts;
  read = λ bs. record { programs = programs_codec.read bs; posts = (all_posts_codec n).read (drop programs_size bs) };
}
