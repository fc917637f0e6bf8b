-- What a shelf tells of its files.
use Rattle.std.specs.Prelude.{◌≡◌, ℕ, List, [], ◌∷◌, length, take, ⊤, String, Vec, string_bytes, bytes_eq, if◌then◌else◌}
use Rattle.std.specs.declared.alloc.Global.{Global}

-- what a shelf tells of a name: nothing, that there is no file of that name, or the file's bytes
pub data File : Type 0 where
  Untold : File
  Absent : File
  Bytes : List ℕ → File

-- these are all bytes of the file, where that is told
abbrev pub IsWhole : File → List ℕ → Type 0
IsWhole Untold bytes = ⊤
IsWhole Absent bytes = ⊥
IsWhole (Bytes all) bytes = bytes ≡ all

-- these are a prefix of the file's bytes, where those are told, and none where there is no file
abbrev pub IsFront : File → List ℕ → Type 0
IsFront Untold bytes = ⊤
IsFront Absent bytes = bytes ≡ []
IsFront (Bytes all) bytes = bytes ≡ take (length bytes) all

-- the bytes of a file's name, and the file's bytes
abbrev pub named_bytes : String Global × Vec ℕ Global → List ℕ × List ℕ
named_bytes file = (string_bytes file.0, file.1.items)

-- the file of this name among named files, the first where there are several
abbrev pub file_of : List (List ℕ × List ℕ) → List ℕ → File
file_of [] name = Absent
file_of (file ∷ files) name = if bytes_eq file.0 name then Bytes file.1 else file_of files name
