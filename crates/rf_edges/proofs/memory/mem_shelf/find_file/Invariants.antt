-- None of the files before the index has the name.
use Rattle.std.proofs.Common.{◌≡◌, map, drop}
use Rattle.rf_edges.specs.Files.{named_bytes, file_of}
use Rattle.rf_edges.proofs.memory.mem_shelf.find_file.Given as goal

abbrev pub invariant-loop-file_name : goal.invariant-loop-file_name
invariant-loop-file_name l = file_of (map named_bytes l.files) l.name ≡ file_of (map named_bytes (drop l.file_name-index l.files)) l.name
