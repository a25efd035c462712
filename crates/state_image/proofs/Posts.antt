-- The codecs of programs and posts keep what they write: of programs those whose list has its four places, of posts those whose units from n on have none. And
-- their pieces, put or read one after the other, are the whole. Assumes nothing.
use mathlib.Core.Path.{◌≡◌, refl, sym, ap, ap₂, ◌∙◌}
use mathlib.Core.List.{List, [], ◌∷◌, ◌++◌, append_assoc}
use Prim.Native.Nat.{ℕ, suc, ◌+◌, ◌*◌, ◌≤◌}
use native.Mathlib.Omega.{arith}
use lib.ListN.{length, take, drop, length-append, get_or, drop_of_length-le}
use lib.Seq.{drop_at, drop-drop, take_all, get_or-drop}
use Rattle.area.specs.Parts.{paste, pasted_in}
use Rattle.channel.specs.Units.{unit_count, channel_count}
use Rattle.routines.specs.declared.Program.{Program}
use Rattle.routines.specs.declared.Programs.{Programs}
use Rattle.routines.specs.declared.Post.{Post}
use Rattle.routines.specs.declared.Posts.{Posts}
use Rattle.routines.specs.declared.Routines.{Routines}
use Rattle.routines.specs.Ranks.{depth, main_program}
use Rattle.routines.specs.Posts.{empty_post}
use Rattle.codec.specs.Codecs.{Keeps, Padded, All, first_of}
use Rattle.codec.proofs.Codecs.{any, all_any, padded_keeps, each_length, first_length}
use Rattle.codec.proofs.Loops.{put_fits, put_then}
use Rattle.state_image.specs.Routines.{program_size, program_row, program_codec, pushed_codec, programs_size, programs_codec, post_codec, unit_posts_codec, posts_codec, empty_posts, all_posts_codec, routines_size, routines_codec}
use Rattle.state_image.specs.Images.{PostsTo}

-- ---- what runs and was interrupted

pub program_keeps : Keeps program_codec any
program_keeps = record { sized = λ p. refl; back = λ p rest g. refl }

pub pushed_keep : Keeps pushed_codec (Padded main_program depth depth any)
pushed_keep = padded_keeps program_codec any program_keeps main_program depth depth

pub programs_sized : (p : Programs) → length (programs_codec.write p) ≡ programs_size
programs_sized p = ap (λ (k : ℕ). suc (suc (suc (suc (suc k))))) (pushed_keep.sized p.pushed)

abbrev pub HasPlaces : Programs → Type 0
HasPlaces p = length p.pushed ≡ depth

pub programs_keep : Keeps programs_codec HasPlaces
programs_keep = record {
  sized = programs_sized;
  back = λ p rest g.
      let far : length p.pushed ≤ depth = omega (arith, g) in
      let all : Padded main_program depth depth any p.pushed =
      record { long = omega (arith, g); each = all_any (take depth p.pushed); rest = drop_of_length-le p.pushed far } in
      ap (λ (l : List Program). record { running = p.running; pushed = l; count = p.count }) (pushed_keep.back p.pushed rest all);
}

-- ---- what stands with the units

pub post_keeps : Keeps post_codec any
post_keeps = record { sized = λ x. refl; back = λ x rest g. refl }

pub unit_posts_keep : (n : ℕ) → Keeps (unit_posts_codec n) (Padded empty_post unit_count n any)
unit_posts_keep n = padded_keeps post_codec any post_keeps empty_post unit_count n

pub posts_sized : (n : ℕ) (p : Posts) → length ((posts_codec n).write p) ≡ (posts_codec n).size
posts_sized n p = (unit_posts_keep n).sized p.units

pub posts_keep : (n : ℕ) → n ≤ unit_count → Keeps (posts_codec n) (PostsTo n)
posts_keep n h = record {
  sized = posts_sized n;
  back = λ p rest g.
      let all : Padded empty_post unit_count n any p.units = record { long = omega (arith, g.0); each = all_any (take n p.units); rest = g.1 } in
      ap (λ (l : List Post). record { units = l }) ((unit_posts_keep n).back p.units rest all);
}

pub all_posts_sized : (n : ℕ) (ps : List Posts) → length ((all_posts_codec n).write ps) ≡ (all_posts_codec n).size
all_posts_sized n ps =
    each_length (posts_codec n) (posts_sized n) (first_of empty_posts channel_count ps)
    ∙ ap (λ (m : ℕ). m * (posts_codec n).size) (first_length empty_posts channel_count ps)

-- ---- both

pub routines_sized : (n : ℕ) (r : Routines) → length ((routines_codec n).write r) ≡ routines_size n
routines_sized n r =
    length-append (programs_codec.write r.programs) ((all_posts_codec n).write r.posts) ∙ ap₂ ◌+◌ (programs_sized r.programs) (all_posts_sized n r.posts)

pub record HasPosts (n : ℕ) (r : Routines) : Type 0 where
  pub pushed : HasPlaces r.programs
  pub posts : length r.posts ≡ channel_count
  pub units : All (PostsTo n) r.posts

pub routines_keep : (n : ℕ) → n ≤ unit_count → Keeps (routines_codec n) (HasPosts n)
routines_keep n h = record {
  sized = routines_sized n;
  back = λ r rest g.
      let ps = programs_codec.write r.programs in
      let qs = (all_posts_codec n).write r.posts in
      let apart : (ps ++ qs) ++ rest ≡ ps ++ (qs ++ rest) = append_assoc ps qs rest in
      let all : take channel_count r.posts ≡ r.posts = take_all channel_count r.posts (omega (arith, g.posts)) in
      let far : length r.posts ≤ channel_count = omega (arith, g.posts) in
      let padded-posts : Padded empty_posts channel_count channel_count (PostsTo n) r.posts =
      record { long = omega (arith, g.posts); each = rw all g.units; rest = drop_of_length-le r.posts far } in
      let programs : programs_codec.read ((ps ++ qs) ++ rest) ≡ r.programs =
      ap programs_codec.read apart ∙ programs_keep.back r.programs (qs ++ rest) g.pushed in
      let posts : (all_posts_codec n).read (drop programs_size ((ps ++ qs) ++ rest)) ≡ r.posts =
      ap (λ (l : List ℕ). (all_posts_codec n).read (drop programs_size l)) apart
      ∙ ap (all_posts_codec n).read (drop_at ps (qs ++ rest) programs_size (programs_sized r.programs))
      ∙ (padded_keeps (posts_codec n) (PostsTo n) (posts_keep n h) empty_posts channel_count channel_count).back r.posts rest padded-posts in
      ap₂ (λ (p : Programs) (l : List Posts). record { programs = p; posts = l }) programs posts;
}

-- ---- pieces one after the other

pub programs_there : (at : ℕ) (bs : List ℕ)
    → record { running = program_codec.read (drop (at + 1) bs); pushed = pushed_codec.read (drop (at + 1 + program_size) bs); count = get_or bs at 0 }
    ≡ programs_codec.read (drop at bs)
programs_there at bs =
    let z : at + (1 + program_size) ≡ at + 1 + program_size = omega arith in
    let o : at + 0 ≡ at = omega arith in
    sym (ap₂ (λ (l m : List ℕ). record { running = program_codec.read l; pushed = pushed_codec.read m; count = get_or (drop at bs) 0 0 }) (drop-drop 1 at bs)
    (drop-drop (1 + program_size) at bs ∙ ap (λ (k : ℕ). drop k bs) z)
    ∙ ap (λ (k : ℕ). record { running = program_codec.read (drop (at + 1) bs); pushed = pushed_codec.read (drop (at + 1 + program_size) bs); count = k })
    (get_or-drop at bs 0 0 ∙ ap (λ (k : ℕ). get_or bs k 0) o))

pub programs_put : (at : ℕ) (p : Programs) (xs o q r : List ℕ) → at + programs_size ≤ length xs → o ≡ pasted_in at (p.count ∷ []) xs
    → q ≡ paste (at + 1) (program_row p.running) o → r ≡ paste (at + 1 + program_size) (pushed_codec.write p.pushed) q
    → r ≡ paste at (programs_codec.write p) xs
programs_put at p xs o q r room e f g =
    let one : o ≡ paste at (p.count ∷ []) xs = put_fits at (p.count ∷ []) xs o (omega arith) e in
    let two : q ≡ paste at ((p.count ∷ []) ++ program_row p.running) xs =
    put_then at 1 (at + 1) (p.count ∷ []) (program_row p.running) xs o q refl refl (omega arith) one f in
    let z : at + 1 + program_size ≡ at + (1 + program_size) = omega arith in
    put_then at (1 + program_size) (at + 1 + program_size) ((p.count ∷ []) ++ program_row p.running) (pushed_codec.write p.pushed) xs q r z refl (omega arith) two g

pub routines_there : (n at : ℕ) (bs : List ℕ)
    → record { programs = programs_codec.read (drop at bs); posts = (all_posts_codec n).read (drop (at + programs_size) bs) } ≡ (routines_codec n).read (drop at bs)
routines_there n at bs =
    ap (λ (l : List ℕ). record { programs = programs_codec.read (drop at bs); posts = (all_posts_codec n).read l }) (sym (drop-drop programs_size at bs))

pub routines_put : (n at : ℕ) (r : Routines) (xs o q : List ℕ) → at + routines_size n ≤ length xs → o ≡ paste at (programs_codec.write r.programs) xs
    → q ≡ paste (at + programs_size) ((all_posts_codec n).write r.posts) o → q ≡ paste at ((routines_codec n).write r) xs
routines_put n at r xs o q room e f =
    put_then at programs_size (at + programs_size) (programs_codec.write r.programs) ((all_posts_codec n).write r.posts) xs o q refl (programs_sized r.programs) (omega arith) e f
