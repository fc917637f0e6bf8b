-- The line ends in blanks behind its module path.
use Rattle.std.proofs.Common.{◌≡◌, ℕ, List, false, ◌++◌, sym, ap, ◌∙◌, subst, append_assoc}
use Rattle.std.specs.Prelude.{codes}
use Rattle.std.specs.Str.{chars}
use Rattle.rf_base_grammar.specs.Cuts.{span}
use Rattle.rf_base_grammar.specs.LanguageLine.{is_blank}
use Rattle.rf_base_grammar.specs.Reader.{path_cut, language_ends_well}
use Rattle.rf_lexer.specs.Fronts.{Tells}
use Rattle.rf_lexer.proofs.LanguageParts.{line_parts, line_ends, line_stray, line_bad}
use Rattle.rf_lexer.proofs.language.named_language.Goals as goal

pub ends_well-requires : goal.ends_well-requires
ends_well-requires c =
    line_ends (chars c.args.behind.now) (chars c.behind_path-rest.result.now) (chars c.past-end.result.now) c.behind_path-rest.ensures c.past-end.ensures

-- the text up to the end of the blanks
line_whole : (text head name part blanks end behind : List ℕ) → text ≡ head ++ (name ++ behind) → behind ≡ part ++ (blanks ++ end) → text ≡ (head ++ (name ++ (part ++ blanks))) ++ end
line_whole text head name part blanks end behind is parts =
    is ∙ ap (λ xs. head ++ (name ++ xs)) (parts ∙ sym (append_assoc part blanks end)) ∙ ap (λ xs. head ++ xs) (sym (append_assoc name (part ++ blanks) end)) ∙ sym (append_assoc head (name ++ (part ++ blanks)) end)

pub stray-requires : goal.stray-requires
stray-requires c =
    let behind = chars c.args.behind.now in
    let name = chars c.args.name.now in
    let end = chars c.past-end.result.now in
    let part = (path_cut behind).front in
    let blanks = (span is_blank (path_cut behind).behind).front in
    (codes "#lang " ++ (name ++ (part ++ blanks)), line_whole (chars c.args.text.now) (codes "#lang ") name part blanks end behind c.requires (line_parts behind (chars c.behind_path-rest.result.now) end c.behind_path-rest.ensures c.past-end.ensures))

pub returns-then-breaks : goal.returns-then-breaks
returns-then-breaks c =
    let behind = chars c.args.behind.now in
    let name = chars c.args.name.now in
    let rest = chars c.behind_path-rest.result.now in
    let end = chars c.past-end.result.now in
    let part = (path_cut behind).front in
    let blanks = (span is_blank (path_cut behind).behind).front in
    let parts : behind ≡ part ++ (blanks ++ end) = line_parts behind rest end c.behind_path-rest.ensures c.past-end.ensures in
    let well : language_ends_well part blanks end ≡ false = sym (c.ends_well.ensures part blanks parts) ∙ c.if-ends_well.false in
    subst (λ a. Tells a c.stray.result)
    (sym (line_stray behind rest end c.behind_path-rest.ensures c.past-end.ensures name well (sym c.if-breaks.ensures)))
    (c.stray.ensures (codes "#lang " ++ (name ++ (part ++ blanks))) (line_whole (chars c.args.text.now) (codes "#lang ") name part blanks end behind c.requires parts))

pub returns-else-breaks : goal.returns-else-breaks
returns-else-breaks c =
    let behind = chars c.args.behind.now in
    let name = chars c.args.name.now in
    let rest = chars c.behind_path-rest.result.now in
    let end = chars c.past-end.result.now in
    let part = (path_cut behind).front in
    let blanks = (span is_blank (path_cut behind).behind).front in
    let parts : behind ≡ part ++ (blanks ++ end) = line_parts behind rest end c.behind_path-rest.ensures c.past-end.ensures in
    let well : language_ends_well part blanks end ≡ false = sym (c.ends_well.ensures part blanks parts) ∙ c.if-ends_well.false in
    subst (λ a. Tells a c.bad_language.result)
    (sym (line_bad behind rest end c.behind_path-rest.ensures c.past-end.ensures name well (sym c.if-breaks.ensures)))
    c.bad_language.ensures
