-- Worked examples of what is written of a source on one line: a definition that changes its meaning fails here.
use Rattle.std.proofs.Common.{◌≡◌, ℕ, Bool, true, false, List, [], ◌∷◌, Option, Some, None, map, codes, refl, sym, ap, subst, inl, inr, arith}
use Rattle.std.specs.Str.{chars}
use Rattle.rf_base_document.specs.declared.directions.Dir.TheVariants.{Left, Right}
use Rattle.rf_base_grammar.specs.Token.{Token}
use Rattle.rf_base_grammar.specs.Woven.{trails}
use Rattle.rf_base_grammar.specs.declared.kinds.Kind.{Kind}
use Rattle.rf_base_grammar.specs.declared.kinds.Kind.TheVariants.{Atom, Line}
use Rattle.rf_base_tree.specs.declared.separators.Want.TheVariants as want
use Rattle.rf_base_lines.specs.Spelled.{spelled}
use Rattle.rf_tree.specs.Slots.{NodeSlot}
use Rattle.rf_tree.specs.declared.nodes.At.{At}
use Rattle.rf_lines.specs.Turned.{SomeLed, OfBreaks}
use Rattle.rf_lines.specs.Written.{Lined, lined, with_text, flat_line, Stretch, stretch, stretch_at, longer, IsLonger, AddsSpace, turned, line_on, flat_line_on, shown, flat_dirs, spaced, MayStand}

-- a stretch, and a line of it
abbrev strip : Stretch
strip = stretch 1 3 7 (Left ∷ []) (Right ∷ []) 5

abbrev known : Lined
known = lined (spelled 7 (Left ∷ []) (codes "bc") 5) (Right ∷ [])

-- one text more goes to its own end, with its columns, and leaves the choices as they are
longer_is : longer strip 4 2 ≡ stretch 1 4 9 (Left ∷ []) (Right ∷ []) 6
longer_is = refl

-- choices are put behind those that are there
turned_is : turned strip (Right ∷ []) (Left ∷ Left ∷ [])
    ≡ stretch 1 3 7 (Left ∷ Right ∷ []) (Right ∷ Left ∷ Left ∷ []) 5
turned_is = refl

-- its line has its characters and choices, and where all is flat the others
lines_are : (line_on (codes "abcd") strip ≡ known.line)
    × (flat_line_on (codes "abcd") strip ≡ spelled 7 (Right ∷ []) (codes "bc") 5)
unfolding chars
lines_are = (refl, refl)

texts_are : (shown (codes "bc") strip ≡ known) × (flat_line known ≡ spelled 7 (Right ∷ []) (codes "bc") 5)
    × (with_text (codes "x") known ≡ lined (spelled 7 (Left ∷ []) (codes "x") 5) (Right ∷ []))
    × (stretch_at 4 ≡ stretch 4 4 0 [] [] 0)
texts_are = (refl, refl, refl, refl)

-- a text is added where the stretch ends, and a space where one stands there
adds_text : IsLonger strip (stretch 1 5 9 (Left ∷ []) (Right ∷ []) 6) 3 5 2
    × (IsLonger strip (stretch 1 5 9 (Left ∷ []) (Right ∷ []) 6) 4 5 2 → ⊥)
adds_text = ((refl, refl), λ h. (let e : 3 ≡ 4 = h.0 in omega (arith, e)))

abbrev number : Option ℕ → ℕ
number None = 0
number (Some n) = n

adds_space : AddsSpace (codes "abc d") strip (stretch 1 4 8 (Left ∷ []) (Right ∷ []) 6)
    × (AddsSpace (codes "ab cd") strip (stretch 1 4 8 (Left ∷ []) (Right ∷ []) 6) → ⊥)
    × (AddsSpace (codes "abc d") strip strip → ⊥)
adds_space = (
  (refl, (refl, refl)),
  λ h. (let e : 99 ≡ 32 = ap number h.0 in omega (arith, e)),
  λ h. (let e : 3 ≡ 4 = ap (λ (s : Stretch). s.to) h.1.1 in omega (arith, e)),
)

-- a list of more than one slot takes its first layout where all is flat
flat_dirs_are : map flat_dirs (0 ∷ 1 ∷ 2 ∷ 3 ∷ []) ≡ [] ∷ [] ∷ (Left ∷ []) ∷ (Left ∷ []) ∷ []
flat_dirs_are = refl

-- a space stands in place of a line, and what else is wanted stays
spaced_are : map spaced (want.Nothing ∷ want.Space ∷ want.Line ∷ want.Must ∷ [])
    ≡ want.Nothing ∷ want.Space ∷ want.Space ∷ want.Must ∷ []
spaced_are = refl

-- two atoms, a line comment behind them and one on its own line
abbrev item : Kind → Bool → Token
item kind own_line = record { kind = kind; start = 0; spelling = []; blanks = 0; own_line = own_line }

abbrev items : List Token
items = item Atom false ∷ item Atom false ∷ item Line false ∷ item Line true ∷ []

-- a line may stand between items but before a comment that trails, and before no item that isn't there
lines_may_stand : MayStand items 0 1 want.Line × MayStand items 2 3 want.Line
lines_may_stand = (
  (item Atom false, item Atom false, refl, refl, refl),
  (item Line false, item Line true, refl, refl, refl),
)

before_trailing : MayStand items 1 2 want.Line → ⊥
before_trailing (a, b, before, next, own) =
    let there : Some (item Line false) ≡ Some b = next in
    let same : item Line false ≡ b = cc in
    let trailing : true ≡ false = subst (λ (t : Token). trails t ≡ false) (sym same) own in
    cc

at_the_end : MayStand items 3 4 want.Line → ⊥
at_the_end (a, b, before, next, own) = (let none : None ≡ Some b = next in cc)

-- anything else may stand there
others_may_stand : MayStand items 1 2 want.Nothing × MayStand items 1 2 want.Space × MayStand items 1 2 want.Must
others_may_stand = (tt, tt, tt)

-- slots break where one has a datum behind comments, and not where a datum or a comment is alone
abbrev node : At
node = record { 0 = 3 }

abbrev a_slot : List At → Option At → NodeSlot
a_slot leads datum = record { leads = leads; key = None; datum = datum; trailing = None }

some_led : SomeLed (a_slot [] (Some node) ∷ a_slot (node ∷ []) (Some node) ∷ [])
unfolding SomeLed
some_led = inr (inl (λ e. cc, λ e. cc))

none_led : SomeLed (a_slot [] (Some node) ∷ a_slot (node ∷ []) None ∷ []) → ⊥
unfolding SomeLed
none_led h = elim h [ inl first ↦ first.0 refl | inr others ↦ elim others [ inl last ↦ last.1 refl | inr none ↦ none ] ]

-- it is said of these and of no others
may_be_said : OfBreaks (a_slot (node ∷ []) (Some node) ∷ []) (λ breaks. breaks ≡ true) × (OfBreaks (a_slot [] (Some node) ∷ []) (λ breaks. breaks ≡ true) → ⊥)
unfolding SomeLed
may_be_said = (
  (true, λ e. inl (λ f. cc, λ f. cc), refl),
  λ h. elim (h.1 h.2) [ inl first ↦ first.0 refl | inr none ↦ none ],
)
