-- The style without a style file.
use Rattle.std.specs.Prelude.{ℕ, List, [], ◌∷◌, ◌++◌, map, codes}
use Rattle.rf_base_style.specs.declared.columns.Columns.TheVariants.{Characters}
use Rattle.rf_base_style.specs.declared.rules.Form.TheVariants.{Hang, Plain, Body, Clauses, Bindings}
use Rattle.rf_base_style.specs.declared.rules.Rule.{Rule}
use Rattle.rf_base_style.specs.Table.{Table, StyleView, uncharged}

-- the names, each with this rule
unfoldable pub all_have : Rule → List (List ℕ) → Table
all_have rule names = map (λ name. (name, rule)) names

-- the names that define
abbrev pub definers : List (List ℕ)
definers =
    codes "define" ∷ codes "define-values" ∷ codes "define-syntax" ∷ codes "define-syntax-rule" ∷ codes "set!" ∷ []

-- the names of functions without a name; 955 is the Greek letter lambda
abbrev pub functions : List (List ℕ)
functions = codes "lambda" ∷ (955 ∷ []) ∷ []

-- the names with clauses and no header
abbrev pub conditionals : List (List ℕ)
conditionals = codes "case-lambda" ∷ codes "cond" ∷ codes "match-lambda" ∷ []

-- the names with clauses behind one header
abbrev pub matchers : List (List ℕ)
matchers = codes "case" ∷ codes "match" ∷ codes "syntax-rules" ∷ []

-- the names that bind in their first header
abbrev pub binders : List (List ℕ)
binders =
    codes "let" ∷ codes "let*" ∷ codes "letrec" ∷ codes "let-values" ∷ codes "let*-values" ∷ codes "letrec-values"
    ∷ codes "parameterize" ∷ codes "with-syntax" ∷ codes "with-handlers" ∷ []

-- the names of loops that bind in their first header
abbrev pub loops : List (List ℕ)
loops =
    codes "for" ∷ codes "for*" ∷ codes "for/list" ∷ codes "for*/list" ∷ codes "for/vector" ∷ codes "for/hash"
    ∷ codes "for/and" ∷ codes "for/or" ∷ codes "for/sum" ∷ codes "for/first" ∷ []

-- the names of loops that bind in their second header
abbrev pub folds : List (List ℕ)
folds = codes "for/fold" ∷ codes "for*/fold" ∷ []

-- the names with a body behind one header, never on one line
abbrev pub guards : List (List ℕ)
guards = codes "when" ∷ codes "unless" ∷ codes "module+" ∷ []

-- the names with a body alone
abbrev pub sequences : List (List ℕ)
sequences = codes "begin" ∷ codes "begin0" ∷ []

-- the names of modules
abbrev pub modules : List (List ℕ)
modules = codes "module" ∷ codes "module*" ∷ []

-- the names whose arguments stand below the first one
abbrev pub hanging : List (List ℕ)
hanging = codes "if" ∷ codes "and" ∷ codes "or" ∷ codes "require" ∷ codes "provide" ∷ []

-- the table without a style file
unfoldable pub default_table : Table
default_table =
    all_have (uncharged Body 1 1) definers
    ++ all_have (uncharged Body 1 1) functions
    ++ all_have (uncharged Clauses 0 0) conditionals
    ++ all_have (uncharged Clauses 1 0) matchers
    ++ all_have (uncharged Clauses 2 0) (codes "syntax-case" ∷ [])
    ++ all_have (uncharged Bindings 1 0) binders
    ++ all_have (uncharged Bindings 1 0) loops
    ++ all_have (uncharged Bindings 2 0) folds
    ++ all_have (uncharged Body 1 0) guards
    ++ all_have (uncharged Body 0 0) sequences
    ++ all_have (uncharged Body 2 0) modules
    ++ all_have (uncharged Body 2 2) (codes "struct" ∷ [])
    ++ all_have (uncharged Hang 0 0) hanging
    ++ all_have (uncharged Plain 0 0) (codes "quote" ∷ [])

-- the style without a style file: pages of 102 columns, computed within 120, one blank line kept
abbrev pub default_style : StyleView
default_style = record { width = 102; limit = 120; blanks = 1; columns = Characters; table = default_table }
