-- Which files a path takes that is kept whole.
use Rattle.std.specs.Prelude.{◌≡◌, ◌++◌, ℕ, List, ◌⊎◌, codes}
use Rattle.wmax_onlooker.specs.declared.file_id.FilePlace.{FilePlace}
use Rattle.wmax_onlooker.specs.FileId.{IsOneFolder}

-- where a text is written before it is whole
abbrev pub part_path : List ℕ → List ℕ
part_path path = path ++ codes ".part"

-- the file that is kept whole under the first name, or its text before that is whole, has the other
-- name
abbrev pub TakesName : List ℕ → List ℕ → Type 0
TakesName name other = (name ≡ other) ⊎ (other ≡ part_path name)

-- and it has the other place
abbrev pub TakesPlace : FilePlace → FilePlace → Type 0
TakesPlace here there =
    IsOneFolder here.folder there.folder × TakesName here.name.now there.name.now
