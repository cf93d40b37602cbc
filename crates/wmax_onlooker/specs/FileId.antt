-- Where the files of paths stand.
use Rattle.std.specs.Prelude.{◌≡◌, List, [], ℕ, Option, Some, None, unwrap_or}
use Rattle.std.specs.Path.{path_file_name}
use Rattle.wmax_onlooker.specs.declared.file_id.FileId.{FileId}

-- the last component of a path; nothing where it has none
abbrev pub file_name_of : List ℕ → List ℕ
file_name_of path = unwrap_or (path_file_name path) []

-- both were looked at, and are one
abbrev pub IsOneFolder : Option FileId → Option FileId → Type 0
IsOneFolder (Some here) (Some there) = here ≡ there
IsOneFolder (Some here) None = ⊥
IsOneFolder None there = ⊥
