-- Parts one after another, each with the gap before it, behind an item or at a beginning.
use Rattle.std.specs.Prelude.{ℕ, Option, None, Some, List, [], ◌∷◌, ◌++◌}
use Rattle.rf_base_document.specs.Document.{Doc}
use Rattle.rf_base_grammar.specs.Token.{Token}
use Rattle.rf_base_tree.specs.declared.separators.Want.{Want}
use Rattle.rf_base_tree.specs.declared.separators.Want.TheVariants as want
use Rattle.rf_base_file.specs.declared.shapes.Role.{Role}
use Rattle.rf_base_file.specs.declared.shapes.Role.TheVariants.{Free}
use Rattle.rf_base_file.specs.Rows.{Part, Step, step, steps_wanting, gap_docs}

-- the gap behind this item; without an item there is none
abbrev pub gap_behind : List Token → Option ℕ → ℕ → Want → List Doc
gap_behind ts None next w = []
gap_behind ts (Some last) next w = gap_docs ts last next w

-- the last item of the steps, or this one where there are none
unfoldable pub last_behind : Option ℕ → List Step → Option ℕ
last_behind last [] = last
last_behind last (s ∷ steps) = last_behind (Some s.part.last) steps

-- the gaps and the parts that stand behind this item; without an item none stands before the first part
unfoldable pub docs_behind : List Token → Option ℕ → List Step → List Doc
docs_behind ts last [] = []
docs_behind ts last (s ∷ steps) =
    gap_behind ts last s.part.first s.want ++ s.part.doc ∷ docs_behind ts (Some s.part.last) steps

-- what stands behind a prefix or a skip: its comments and its datum
abbrev pub prefixed_steps : List Part → Part → List Step
prefixed_steps [] inner = step want.Nothing inner ∷ []
prefixed_steps (c ∷ lead) inner = step want.Nothing c ∷ (steps_wanting want.Space lead ++ step want.Space inner ∷ [])

-- what is wanted before a datum: one space behind its key
abbrev pub want_behind : {A : Type 0} → Option A → Want
want_behind None = want.Line
want_behind (Some key) = want.Space

-- a datum behind a key has no role
abbrev pub role_behind : {A : Type 0} → Option A → Role → Role
role_behind None role = role
role_behind (Some key) role = Free
