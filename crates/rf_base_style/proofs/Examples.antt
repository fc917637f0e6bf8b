-- Worked examples: a definition that changes its meaning fails here.
use Rattle.std.proofs.Common.{◌≡◌, ℕ, ◌<◌, [], ◌∷◌, refl, arith}
use Rattle.std.specs.Prelude.{length, codes, map, Some, None}
use Rattle.rf_base_style.specs.declared.columns.Columns.TheVariants.{Characters, Display}
use Rattle.rf_base_style.specs.declared.rules.Form.{Form}
use Rattle.rf_base_style.specs.declared.rules.Form.TheVariants.{App, Body, Clauses, Bindings, Hang, Plain}
use Rattle.rf_base_style.specs.declared.rules.Rule.{Rule}
use Rattle.rf_base_style.specs.declared.rules.Charges.{Charges}
use Rattle.unicode_width.proofs.Computing.{unicode_width}
use Rattle.rf_base_style.specs.Columns.{display_width, display_length, length_in, columns_named}
use Rattle.rf_base_style.specs.Table.{rule_in, with_rule, head_rule, no_charges, uncharged, AreCharges, IsRule, AreRules, StyleView, IsWidth, IsStyle}
use Rattle.rf_base_style.specs.Defaults.{all_have, default_table, default_style}

-- the default table has 49 names
names : length default_table ≡ 49
unfolding default_table all_have
names = refl

-- in this order; 955 is the Greek letter lambda
names_in_order : map (λ entry. entry.0) default_table
    ≡ codes "define" ∷ codes "define-values" ∷ codes "define-syntax" ∷ codes "define-syntax-rule" ∷ codes "set!"
    ∷ codes "lambda" ∷ (955 ∷ []) ∷ codes "case-lambda" ∷ codes "cond" ∷ codes "match-lambda" ∷ codes "case"
    ∷ codes "match" ∷ codes "syntax-rules" ∷ codes "syntax-case" ∷ codes "let" ∷ codes "let*" ∷ codes "letrec"
    ∷ codes "let-values" ∷ codes "let*-values" ∷ codes "letrec-values" ∷ codes "parameterize" ∷ codes "with-syntax"
    ∷ codes "with-handlers" ∷ codes "for" ∷ codes "for*" ∷ codes "for/list" ∷ codes "for*/list" ∷ codes "for/vector"
    ∷ codes "for/hash" ∷ codes "for/and" ∷ codes "for/or" ∷ codes "for/sum" ∷ codes "for/first" ∷ codes "for/fold"
    ∷ codes "for*/fold" ∷ codes "when" ∷ codes "unless" ∷ codes "module+" ∷ codes "begin" ∷ codes "begin0"
    ∷ codes "module" ∷ codes "module*" ∷ codes "struct" ∷ codes "if" ∷ codes "and" ∷ codes "or" ∷ codes "require"
    ∷ codes "provide" ∷ codes "quote" ∷ []
unfolding default_table all_have
names_in_order = refl

-- struct is a body of two headers, of which two fields more may stand on one line
struct : head_rule default_table (codes "struct") ≡ uncharged Body 2 2
unfolding default_table all_have head_rule rule_in
struct = refl

-- a name that the table lacks is an application
unknown : head_rule default_table (codes "displayln") ≡ uncharged App 0 0
unfolding default_table all_have head_rule rule_in
unknown = refl

-- a rule that is put stays in its name's place, and a new name goes to the end
in_place : with_rule (all_have (uncharged App 0 0) (codes "a" ∷ codes "b" ∷ [])) (codes "a") (uncharged Hang 0 0)
    ≡ (codes "a", uncharged Hang 0 0) ∷ (codes "b", uncharged App 0 0) ∷ []
unfolding all_have with_rule
in_place = refl

at_the_end : with_rule (all_have (uncharged App 0 0) (codes "a" ∷ [])) (codes "b") (uncharged Hang 0 0)
    ≡ (codes "a", uncharged App 0 0) ∷ (codes "b", uncharged Hang 0 0) ∷ []
unfolding all_have with_rule
at_the_end = refl

-- a letter, a wide character, a combining mark, a control character, a vowel that is three columns wide, and an
-- inverted exclamation mark, which is wide in East Asian texts alone
widths : (display_width 97 ≡ 1) × (display_width 0x6F22 ≡ 2) × (display_width 0x301 ≡ 0) × (display_width 7 ≡ 1)
    × (display_width 0x17D8 ≡ 2) × (display_width 0xA1 ≡ 1)
unfolding display_width unicode_width
widths = (refl, refl, refl, refl, refl, refl)

-- "a" and two wide characters
lengths : (length_in Characters (97 ∷ 0x6F22 ∷ 0x5B57 ∷ []) ≡ 3) × (length_in Display (97 ∷ 0x6F22 ∷ 0x5B57 ∷ []) ≡ 5)
unfolding length_in display_length display_width unicode_width
lengths = (refl, refl)

-- the ways of counting columns by their names, and texts that name none
names_of_columns : map columns_named
    (codes "characters" ∷ codes "display" ∷ codes "displays" ∷ codes "Display" ∷ [] ∷ [])
    ≡ Some Characters ∷ Some Display ∷ None ∷ None ∷ None ∷ []
unfolding columns_named
names_of_columns = refl

-- one head of each group without a style file
rules_of_groups : map (head_rule default_table)
    (codes "set!" ∷ codes "lambda" ∷ codes "cond" ∷ codes "match" ∷ codes "syntax-case" ∷ codes "let*"
    ∷ codes "for/list" ∷ [])
    ≡ uncharged Body 1 1 ∷ uncharged Body 1 1 ∷ uncharged Clauses 0 0 ∷ uncharged Clauses 1 0 ∷ uncharged Clauses 2 0
    ∷ uncharged Bindings 1 0 ∷ uncharged Bindings 1 0 ∷ []
unfolding default_table all_have head_rule rule_in
rules_of_groups = refl

rules_of_more_groups : map (head_rule default_table)
    (codes "for/fold" ∷ codes "when" ∷ codes "begin" ∷ codes "module" ∷ codes "require" ∷ codes "quote" ∷ [])
    ≡ uncharged Bindings 2 0 ∷ uncharged Body 1 0 ∷ uncharged Body 0 0 ∷ uncharged Body 2 0 ∷ uncharged Hang 0 0
    ∷ uncharged Plain 0 0 ∷ []
unfolding default_table all_have head_rule rule_in
rules_of_more_groups = refl

default_widths : (default_style.width ≡ 102) × (default_style.limit ≡ 120) × (default_style.blanks ≡ 1)
    × (default_style.columns ≡ Characters)
default_widths = (refl, refl, refl, refl)

-- of two rules for a name the first is it
first_rule : rule_in ((codes "a", uncharged Hang 0 0) ∷ (codes "a", uncharged App 0 0) ∷ []) (codes "a")
    ≡ Some (uncharged Hang 0 0)
unfolding rule_in
first_rule = refl

-- the greatest numbers of a rule, and one more of each
abbrev charged : ℕ → ℕ → ℕ → Charges
charged broken hung flat = record { broken = broken; hung = hung; flat = flat }

-- no charge is 0, 0, 0
without_charges : no_charges ≡ charged 0 0 0
without_charges = refl

abbrev rule : Form → ℕ → ℕ → ℕ → Rule
rule form header flat charge = record {
  form = form;
  header = header;
  flat = flat;
  charges = charged charge charge charge;
}

greatest_numbers : IsRule (rule Body 9 9 1000)
greatest_numbers = record {
  header = omega arith;
  flat = omega arith;
  charges = record { broken = omega arith; hung = omega arith; flat = omega arith };
  bindings = λ e. cc;
}

ten_headers : IsRule (rule Body 10 0 0) → ⊥
ten_headers h = omega (arith, h.header)

ten_bodies : IsRule (rule Body 0 10 0) → ⊥
ten_bodies h = omega (arith, h.flat)

charged_more : AreRules ((codes "a", rule Body 0 0 0) ∷ (codes "b", rule Body 0 0 1001) ∷ []) → ⊥
unfolding AreRules
charged_more h = omega (arith, h.1.0.charges.broken)

broken_more : AreCharges (charged 1001 0 0) → ⊥
broken_more h = omega (arith, h.broken)

hung_more : AreCharges (charged 0 1001 0) → ⊥
hung_more h = omega (arith, h.hung)

flat_more : AreCharges (charged 0 0 1001) → ⊥
flat_more h = omega (arith, h.flat)

-- bindings have a header, and no other shape has to
bindings_without_header : IsRule (rule Bindings 0 0 0) → ⊥
bindings_without_header h = let some : 0 < 0 = h.bindings refl in omega (arith, some)

clauses_without_header : IsRule (rule Clauses 0 0 0)
clauses_without_header = record {
  header = omega arith;
  flat = omega arith;
  charges = record { broken = omega arith; hung = omega arith; flat = omega arith };
  bindings = λ e. cc;
}

-- the least and the greatest numbers of a style, and one less or more of each
abbrev styled : ℕ → ℕ → ℕ → StyleView
styled width limit blanks = record { width = width; limit = limit; blanks = blanks; columns = Display; table = [] }

widest : IsStyle (styled 400 1 9)
unfolding AreRules
widest = record {
  width = (omega arith, omega arith);
  limit = (omega arith, omega arith);
  blanks = omega arith;
  rules = tt;
}

no_width : IsWidth 0 → ⊥
no_width h = omega (arith, h.0)

wider : IsWidth 401 → ⊥
wider h = omega (arith, h.1)

no_page_width : IsStyle (styled 0 1 0) → ⊥
no_page_width h = no_width h.width

no_computation_width : IsStyle (styled 1 401 0) → ⊥
no_computation_width h = wider h.limit

ten_blank_lines : IsStyle (styled 1 1 10) → ⊥
ten_blank_lines h = omega (arith, h.blanks)
