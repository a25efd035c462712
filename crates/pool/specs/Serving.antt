-- Which file serves a unit (document 01, "Sizes"). Assumes nothing.
use Rattle.std.specs.Prelude.{ℕ, suc, Bool, ◌&&◌, List, eqb, get_or, Option, is_some, unwrap_or}
use Rattle.area.specs.Lists.{first_along}
use Rattle.file.specs.declared.File.{File}
use Rattle.file.specs.Sizes.{closed_file}
use Rattle.pool.specs.Free.{file_count}

-- "An open file is bound to one unit"
abbrev pub serves : ℕ → ℕ → File → Bool
serves channel unit f = f.opened && (eqb f.channel channel && eqb f.unit unit)

-- the file number that serves a unit
unfoldable pub serving_file : List File → ℕ → ℕ → Option ℕ
serving_file fs channel unit = first_along suc (λ i. serves channel unit (get_or fs i closed_file)) file_count 0

-- its number; past the last file if there is none
abbrev pub file_serving : List File → ℕ → ℕ → ℕ
file_serving fs channel unit = unwrap_or (serving_file fs channel unit) file_count

-- refusal 4, "unit already bound"
abbrev pub is_bound : List File → ℕ → ℕ → Bool
is_bound fs channel unit = is_some (serving_file fs channel unit)
