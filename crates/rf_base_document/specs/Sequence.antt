-- Sequences: the balanced concatenation of a list of documents.
use Rattle.std.specs.Prelude.{ℕ, zero, suc, ◌+◌, ◌/◌, List, [], ◌∷◌, length, take, drop}
use Rattle.rf_base_document.specs.Document.{Doc, Concat, plain_text}

-- half of n, rounded up
abbrev pub half_up : ℕ → ℕ
half_up n = (n + 1) / 2

-- two halves of these parts, each made one document by f; without parts the empty text, and of one part itself
abbrev pub join_halves : (List Doc → Doc) → List Doc → Doc
join_halves f [] = plain_text []
join_halves f (a ∷ []) = a
join_halves f (a ∷ b ∷ parts) =
    let all : List Doc = a ∷ b ∷ parts in
    let half : ℕ = half_up (length all) in
    Concat (f (take half all)) (f (drop half all))

-- the parts cut into halves, at most depth times
unfoldable pub seq_within : ℕ → List Doc → Doc
seq_within zero parts = plain_text []
seq_within (suc depth) parts = join_halves (seq_within depth) parts

-- the parts one after another, as a tree of the least depth
unfoldable pub seq : List Doc → Doc
seq parts = seq_within (length parts) parts
