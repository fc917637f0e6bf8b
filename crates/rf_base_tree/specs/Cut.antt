-- Slots and separators, computed.
use Rattle.std.specs.Prelude.{ℕ, ◌==◌, ◌||◌, ◌&&◌, not, if◌then◌else◌, Bool, true, false, Option, None, Some, List, [], ◌∷◌, codes}
use Rattle.rf_base_grammar.specs.Characters.{is_delimiter}
use Rattle.rf_base_grammar.specs.Reader.{begins, among}
use Rattle.rf_base_grammar.specs.Spelled.{unquotes}
use Rattle.rf_base_grammar.specs.Token.{Token, is_line_comment}
use Rattle.rf_base_grammar.specs.Woven.{ends_line, trails}
use Rattle.rf_base_grammar.specs.declared.kinds.Kind.{Kind}
use Rattle.rf_base_grammar.specs.declared.kinds.Kind.TheVariants.{Prefix, Dot, Atom}
use Rattle.rf_base_tree.specs.Slots.{Sort, Remark, Datum, Entry, Slot}
use Rattle.rf_base_tree.specs.declared.separators.Want.{Want}
use Rattle.rf_base_tree.specs.declared.separators.Want.TheVariants as want
use Rattle.rf_base_tree.specs.declared.separators.Separator.{Separator}
use Rattle.rf_base_tree.specs.declared.separators.Separator.TheVariants as separator

-- a slot of these
abbrev pub slot : {A : Type 0} → List (Entry A) → Option (Entry A) → Option (Entry A) → Option (Entry A) → Slot A
slot leads key datum trailing = record { leads = leads; key = key; datum = datum; trailing = trailing }

-- the slots, with a comment before the first one
abbrev pub behind_comment : {A : Type 0} → Entry A → List (Slot A) → List (Slot A)
behind_comment e [] = slot (e ∷ []) None None None ∷ []
behind_comment e (s ∷ slots) = slot (e ∷ s.leads) s.key s.datum s.trailing ∷ slots

-- a slot of these before the others, unless there are none of these
abbrev pub unless_empty : {A : Type 0} → List (Entry A) → Option (Entry A) → Option (Entry A) → Option (Entry A) →
    List (Slot A) → List (Slot A)
unless_empty [] None None trailing slots = slots
unless_empty leads key datum trailing slots = slot leads key datum trailing ∷ slots

-- a slot of this datum alone before the others
abbrev pub alone : {A : Type 0} → Entry A → List (Slot A) → List (Slot A)
alone e slots = slot [] None (Some e) None ∷ slots

-- the slots, with a datum before the first of them, s, whose comments begin with c, of this sort: where c stands on the
-- datum's line, it stands in the datum's slot
abbrev pub trailed_by : {A : Type 0} → Sort → Entry A → Entry A → List (Entry A) → Slot A → List (Slot A) →
    List (Slot A)
trailed_by (Remark true) e c leads s slots =
    slot [] None (Some e) (Some c) ∷ unless_empty leads s.key s.datum s.trailing slots
trailed_by _ e c leads s slots = alone e (s ∷ slots)

-- the same, where the first of them, s, has these comments
abbrev pub before_leads : {A : Type 0} → Entry A → List (Entry A) → Slot A → List (Slot A) → List (Slot A)
before_leads e [] s slots = alone e (s ∷ slots)
before_leads e (c ∷ leads) s slots = trailed_by c.sort e c leads s slots

-- the slots, with a datum before the first one
abbrev pub behind_datum : {A : Type 0} → Entry A → List (Slot A) → List (Slot A)
behind_datum e [] = alone e []
behind_datum e (s ∷ slots) = before_leads e s.leads s slots

-- the slots, with a keyword or a dot before the first of them, s, which begins with the datum d, of this sort: it is
-- the key of a datum that is neither
abbrev pub keyed_by : {A : Type 0} → Sort → Entry A → Entry A → Slot A → List (Slot A) → List (Slot A)
keyed_by Datum e d s slots = slot [] (Some e) (Some d) s.trailing ∷ slots
keyed_by _ e d s slots = behind_datum e (s ∷ slots)

-- the same, where the first of them, s, has these comments, this key and this datum
abbrev pub before_parts : {A : Type 0} → Entry A → List (Entry A) → Option (Entry A) → Option (Entry A) → Slot A →
    List (Slot A) → List (Slot A)
before_parts e [] None (Some d) s slots = keyed_by d.sort e d s slots
before_parts e leads key datum s slots = behind_datum e (s ∷ slots)

-- the slots, with a keyword or a dot of a list before the first one
abbrev pub behind_key : {A : Type 0} → Entry A → List (Slot A) → List (Slot A)
behind_key e [] = behind_datum e []
behind_key e (s ∷ slots) = before_parts e s.leads s.key s.datum s slots

-- the slots, with an entry of this sort before the first one
abbrev pub put_by : {A : Type 0} → Bool → Sort → Entry A → List (Slot A) → List (Slot A)
put_by in_list (Remark trailing) e slots = behind_comment e slots
put_by in_list Datum e slots = behind_datum e slots
put_by true _ e slots = behind_key e slots
put_by false _ e slots = behind_datum e slots

-- the slots that entries of a list or of the file are cut into
unfoldable pub slots_of : {A : Type 0} → Bool → List (Entry A) → List (Slot A)
slots_of in_list [] = []
slots_of in_list (e ∷ entries) = put_by in_list e.sort e (slots_of in_list entries)

-- whether the text begins with a character that is no delimiter
abbrev pub begins_undelimited : List ℕ → Bool
begins_undelimited [] = false
begins_undelimited (c ∷ after) = not (is_delimiter c)

-- whether an item of the kind that is spelled so can't stand directly before the next spelling
abbrev pub needs_gap : Kind → List ℕ → List ℕ → Bool
needs_gap Atom spelling next = begins_undelimited next
needs_gap Dot spelling next = begins_undelimited next
needs_gap Prefix spelling next = among unquotes spelling && begins (codes "@") next
needs_gap kind spelling next = ends_line kind

-- what stands where no break is needed, if this is wanted
abbrev pub as_wanted : Bool → Want → Separator
as_wanted true want.Nothing = separator.Space
as_wanted false want.Nothing = separator.Empty
as_wanted needs want.Space = separator.Space
as_wanted needs want.Line = separator.Line
as_wanted needs want.Must = separator.Hard 0

-- whether a line break stands between the neighbours a and b
abbrev pub needs_break : Token → Token → Bool
needs_break a b = ends_line a.kind || is_line_comment b.kind || not (b.blanks == 0)

-- what stands between the neighbours a and b
abbrev pub separator_between : Token → Token → Want → Separator
separator_between a b w =
    if trails b then separator.Space
    else if needs_break a b then separator.Hard b.blanks
    else as_wanted (needs_gap a.kind a.spelling b.spelling) w
