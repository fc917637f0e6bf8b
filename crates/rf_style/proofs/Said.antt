-- What a style file says has its numbers in their ranges.
use Rattle.std.proofs.Common.{◌≡◌, ℕ, ℤ, pos, negsuc, ◌≤◌, ◌<◌, Bool, true, false, cond, ◌&&◌, ◌==◌, nat_le, List, Option, Some, None, Ok, Err, refl, subst, inl, inr, arith, lit≤}
use Rattle.std.specs.Prelude.{unwrap_or, codes}
use Rattle.std.specs.Option.{option_map_or}
use Rattle.std.specs.Str.{bytes_eq, chars}
use Rattle.std.proofs.lemmas.Bool.{cases_Bool}
use Rattle.std.proofs.lemmas.Bool.Decides.{nat_tests}
use Rattle.toml.specs.Data.{Data, Members, no_members, member, as_integer, as_table}
use Rattle.rf_base_style.specs.declared.rules.Form.{Form}
use Rattle.rf_base_style.specs.declared.rules.Form.TheVariants.{App, Bindings}
use Rattle.rf_base_style.specs.declared.rules.Rule.{Rule}
use Rattle.rf_base_style.specs.declared.rules.Charges.{Charges}
use Rattle.rf_base_style.specs.Table.{Table, AreCharges, IsRule, AreRules, IsStyle, with_rule}
use Rattle.rf_base_style.proofs.Tables.{tables_stay_rules, defaults_are_style}
use Rattle.rf_style.specs.declared.rules.Draft.{Draft}
use Rattle.rf_style.specs.declared.style.Style.{Style}
use Rattle.rf_style.specs.Faults.{Fault, Reading, style_key, style_value, and_then, reading_map}
use Rattle.rf_style.specs.Values.{in_range, number, charges_of, charges}
use Rattle.rf_style.specs.Rules as rule
use Rattle.rf_style.specs.StyleOf.{default_style, seen, with_forms, with_key, with_keys, style_said, document_of, style_of}
use Rattle.rf_style.specs.Laws.{SaidIsStyle}

module _ {A B : Type 0} where
  -- what was read on was read from something
  read_on : (next : A → Reading B) (first : Reading A) (y : B) → and_then next first ≡ Ok y → (x : A) × (first ≡ Ok x) × (next x ≡ Ok y)
  read_on next (Ok x) y said = (x, refl, said)
  read_on next (Err fault) y said = absurd (cc)

  read_under : (f : A → B) (first : Reading A) (y : B) → reading_map f first ≡ Ok y → (x : A) × (first ≡ Ok x) × (f x ≡ y)
  read_under f (Ok x) y said = (x, refl, cc)
  read_under f (Err fault) y said = absurd (cc)

-- a number that was read is in its range
in_range-is : (key : List ℕ) (least most : ℕ) (z : ℤ) (n : ℕ) → in_range key least most z ≡ Ok n → (least ≤ n) × (n ≤ most)
unfolding in_range
in_range-is key least most (pos m) n said =
    elim (cases_Bool (nat_le least m && nat_le m most)) [
      | inl inside ↦ let e : m ≡ n = (let f = rw inside at said in cc) in grind (arith, nat_tests)
      | inr outside ↦ let f = rw outside at said in absurd (cc)
    ]
in_range-is key least most (negsuc m) n said = absurd (cc)

number_of-is : (key : List ℕ) (least most : ℕ) (found : Option ℤ) (fault : Fault) (n : ℕ) → option_map_or (in_range key least most) found (Err fault) ≡ Ok n → (least ≤ n) × (n ≤ most)
number_of-is key least most (Some z) fault n said = in_range-is key least most z n said
number_of-is key least most None fault n said = absurd (cc)

number-is : (key : List ℕ) (least most : ℕ) (value : Data) (n : ℕ) → number key least most value ≡ Ok n → (least ≤ n) × (n ≤ most)
unfolding number
number-is key least most value n said = number_of-is key least most (as_integer value) _ n said

-- charges that were read are at most 1,000
charges_of-are : (key : List ℕ) (three : ℤ × ℤ × ℤ) (found : Charges) → charges_of key three ≡ Ok found → AreCharges found
unfolding charges_of
charges_of-are key three found said =
    let first = read_on _ _ _ said in
    let second = read_on _ _ _ first.2 in
    let third = read_under _ _ _ second.2 in
    subst AreCharges third.2 (record {
      broken = (in_range-is key 0 1000 three.0 first.0 first.1).1;
      hung = (in_range-is key 0 1000 three.1 second.0 second.1).1;
      flat = (in_range-is key 0 1000 three.2 third.0 third.1).1;
    })

charges_at-are : (key : List ℕ) (three : Option (ℤ × ℤ × ℤ)) (fault : Fault) (found : Charges) → option_map_or (charges_of key) three (Err fault) ≡ Ok found → AreCharges found
charges_at-are key (Some three) fault found said = charges_of-are key three found said
charges_at-are key None fault found said = absurd (cc)

charges-are : (key : List ℕ) (value : Data) (found : Charges) → charges key value ≡ Ok found → AreCharges found
unfolding charges
charges-are key value found said = charges_at-are key _ _ found said

-- what was read, if anything, has the property
unfoldable Each : {A : Type 0} → (A → Type 0) → Reading A → Type 0
Each P (Ok x) = P x
Each P (Err fault) = Unit {0}

-- nothing that was read lacks it
each-fault : {A : Type 0} (P : A → Type 0) (fault : Fault) → Each P (Err fault)
unfolding Each
each-fault P fault = tt

-- a reading under f has it where f gives it
each-under : {A B : Type 0} (P : B → Type 0) (f : A → B) (first : Reading A) → ((x : A) → first ≡ Ok x → P (f x)) → Each P (reading_map f first)
unfolding Each
each-under P f (Ok x) gives = gives x refl
each-under P f (Err fault) gives = tt

-- a reading by cases has it where each case has
each-case : {A : Type 0} (P : A → Type 0) (b : Bool) (x y : Reading A) → Each P x → Each P y → Each P (cond b x y)
each-case P true x y first second = first
each-case P false x y first second = second

-- what was read has it
each-at : {A : Type 0} (P : A → Type 0) (first : Reading A) (x : A) → Each P first → first ≡ Ok x → P x
unfolding Each
each-at P (Ok y) x has said = let same : y ≡ x = cc in subst P same has
each-at P (Err fault) x has said = absurd (cc)

-- what is known of a rule is in its ranges
record IsDraft (draft : Draft) : Type 0 where
  pub header : (n : ℕ) → draft.header ≡ Some n → n ≤ 9
  pub flat : draft.flat ≤ 9
  pub charges : AreCharges draft.charges

no_draft-is : IsDraft rule.no_draft
no_draft-is = record {
  header = λ n e. absurd (cc);
  flat = lit≤ tt;
  charges = record { broken = lit≤ tt; hung = lit≤ tt; flat = lit≤ tt };
}

-- a number of headers that is known is at most 9
with_header_known : (draft : Draft) (m : ℕ) → IsDraft draft → m ≤ 9 → IsDraft (record draft { header = Some m })
with_header_known draft m is few = record {
  header = λ n e. let same : m ≡ n = cc in subst (λ k. k ≤ 9) same few;
  flat = is.flat;
  charges = is.charges;
}

rule_key-each : (second : Bool) (draft : Draft) (key : List ℕ) (value : Data) → IsDraft draft → Each IsDraft (rule.with_key second draft key value)
unfolding rule.with_key
rule_key-each second draft key value is =
    each-case IsDraft (bytes_eq key (codes "shape")) _ _
    (each-under IsDraft (λ form. record draft { form = Some form }) _ (λ form e. record { header = is.header; flat = is.flat; charges = is.charges }))
    (each-case IsDraft (bytes_eq key (codes "header")) _ _
    (each-under IsDraft (λ n. record draft { header = Some n }) _ (λ n e. with_header_known draft n is (number-is key 0 9 value n e).1))
    (each-case IsDraft (bytes_eq key (codes "flat")) _ _
    (each-under IsDraft (λ n. record draft { flat = n }) _ (λ n e. record { header = is.header; flat = (number-is key 0 9 value n e).1; charges = is.charges }))
    (each-case IsDraft (bytes_eq key (codes "charges") && second) _ _
    (each-under IsDraft (λ found. record draft { charges = found }) _ (λ found e. record { header = is.header; flat = is.flat; charges = charges-are key value found e }))
    (each-fault IsDraft (style_key key)))))

rule_key-is : (second : Bool) (draft : Draft) (key : List ℕ) (value : Data) (next : Draft) → IsDraft draft → rule.with_key second draft key value ≡ Ok next → IsDraft next
rule_key-is second draft key value next is said = each-at IsDraft _ next (rule_key-each second draft key value is) said

rule_keys-are : (second : Bool) (draft : Draft) (keys : Members) (next : Draft) → IsDraft draft → rule.with_keys second draft keys ≡ Ok next → IsDraft next
unfolding rule.with_keys
rule_keys-are second draft no_members next is said = let same : draft ≡ next = cc in subst IsDraft same is
rule_keys-are second draft (member key value keys) next is said =
    let r = read_on _ _ _ said in
    rule_keys-are second r.0 keys next (rule_key-is second draft key value r.0 is r.1) r.2

-- the default number of headers is at most 9
default_header-few : (form : Form) → rule.default_header form ≤ 9
unfolding rule.default_header
default_header-few App = lit≤ tt
default_header-few form = lit≤ tt

header-few : (header : Option ℕ) (least : ℕ) → ((n : ℕ) → header ≡ Some n → n ≤ 9) → least ≤ 9 → unwrap_or header least ≤ 9
header-few None least few default = default
header-few (Some n) least few default = few n refl

-- bindings that keep to the rule have a header
bindings-some : (form : Form) (header : ℕ) → (rule.is_bindings form && (header == 0)) ≡ false → form ≡ Bindings → 0 < header
bindings-some Bindings header kept is = grind (arith, nat_tests)
bindings-some form header kept is = absurd (cc)

with_header-is : (draft : Draft) (form : Form) (found : Rule) → IsDraft draft → rule.with_header (rule.shaped draft form) ≡ Ok found → IsRule found
with_header-is draft form found is said =
    elim (cases_Bool (rule.is_bindings form && (unwrap_or draft.header (rule.default_header form) == 0))) [
      | inl lacks ↦ let bad = rw lacks at said in absurd (cc)
      | inr kept ↦
          let good = rw kept at said in
          let same : rule.shaped draft form ≡ found = cc in
          subst IsRule same (record {
            header = header-few draft.header (rule.default_header form) is.header (default_header-few form);
            flat = is.flat;
            charges = is.charges;
            bindings = bindings-some form (unwrap_or draft.header (rule.default_header form)) kept;
          })
    ]

finish-is : (name : List ℕ) (draft : Draft) (form : Option Form) (found : Rule) → IsDraft draft → rule.finish name draft form ≡ Ok found → IsRule found
finish-is name draft None found is said = absurd (cc)
finish-is name draft (Some form) found is said = with_header-is draft form found is said

finished-is : (name : List ℕ) (draft : Draft) (found : Rule) → IsDraft draft → rule.finished name draft ≡ Ok found → IsRule found
unfolding rule.finished
finished-is name draft found is said = finish-is name draft draft.form found is said

rule_with-is : (second : Bool) (name : List ℕ) (keys : Option Members) (found : Rule) → rule.rule_with second name keys ≡ Ok found → IsRule found
rule_with-is second name None found said = absurd (cc)
rule_with-is second name (Some keys) found said =
    let r = read_on _ _ _ said in
    finished-is name r.0 found (rule_keys-are second rule.no_draft keys r.0 no_draft-is r.1) r.2

rule_of-is : (second : Bool) (name : List ℕ) (value : Data) (found : Rule) → rule.rule_of second name value ≡ Ok found → IsRule found
unfolding rule.rule_of
rule_of-is second name value found said = rule_with-is second name (as_table value) found said

names-are : (second : Bool) (table : Table) (names : Members) (next : Table) → AreRules table → rule.with_names second table names ≡ Ok next → AreRules next
unfolding rule.with_names
names-are second table no_members next all said = let same : table ≡ next = cc in subst AreRules same all
names-are second table (member name value names) next all said =
    let r = read_on _ _ _ said in
    names-are second (with_rule table (chars name) r.0) names next (tables_stay_rules table (chars name) r.0 all (rule_of-is second name value r.0 r.1)) r.2

-- the style is one
abbrev Is : Style → Type 0
Is style = IsStyle (seen style)

forms-each : (second : Bool) (style : Style) (key : List ℕ) (names : Option Members) → Is style → Each Is (with_forms second style key names)
forms-each second style key None is = each-fault Is (style_value key)
forms-each second style key (Some names) is =
    each-under Is (λ table. record style { forms = table }) _ (λ table e. record { width = is.width; limit = is.limit; blanks = is.blanks; rules = names-are second style.forms names table is.rules e })

key-each : (second : Bool) (style : Style) (key : List ℕ) (value : Data) → Is style → Each Is (with_key second style key value)
unfolding with_key
key-each second style key value is =
    each-case Is (bytes_eq key (codes "version")) _ _
    (each-under Is (λ n. style) _ (λ n e. is))
    (each-case Is (bytes_eq key (codes "width")) _ _
    (each-under Is (λ n. record style { width = n }) _ (λ n e. record { width = number-is key 1 400 value n e; limit = is.limit; blanks = is.blanks; rules = is.rules }))
    (each-case Is (bytes_eq key (codes "limit")) _ _
    (each-under Is (λ n. record style { limit = n }) _ (λ n e. record { width = is.width; limit = number-is key 1 400 value n e; blanks = is.blanks; rules = is.rules }))
    (each-case Is (bytes_eq key (codes "max-blank-lines")) _ _
    (each-under Is (λ n. record style { blanks = n }) _ (λ n e. record { width = is.width; limit = is.limit; blanks = (number-is key 0 9 value n e).1; rules = is.rules }))
    (each-case Is (bytes_eq key (codes "cost")) _ _
    (each-under Is (λ cost. record style { cost = cost }) _ (λ cost e. record { width = is.width; limit = is.limit; blanks = is.blanks; rules = is.rules }))
    (each-case Is (bytes_eq key (codes "forms")) _ _
    (forms-each second style key (as_table value) is)
    (each-case Is (bytes_eq key (codes "columns") && second) _ _
    (each-under Is (λ columns. record style { columns = columns }) _ (λ columns e. record { width = is.width; limit = is.limit; blanks = is.blanks; rules = is.rules }))
    (each-fault Is (style_key key))))))))

key-is : (second : Bool) (style : Style) (key : List ℕ) (value : Data) (next : Style) → Is style → with_key second style key value ≡ Ok next → Is next
key-is second style key value next is said = each-at Is _ next (key-each second style key value is) said

keys-are : (second : Bool) (style : Style) (keys : Members) (next : Style) → Is style → with_keys second style keys ≡ Ok next → Is next
unfolding with_keys
keys-are second style no_members next is said = let same : style ≡ next = cc in subst Is same is
keys-are second style (member key value keys) next is said =
    let r = read_on _ _ _ said in
    keys-are second r.0 keys next (key-is second style key value r.0 is r.1) r.2

style_said-is : (keys : Members) (style : Style) → style_said keys ≡ Ok style → Is style
unfolding style_said
style_said-is keys style said = keys-are _ default_style keys style defaults_are_style said

pub said_is_style : SaidIsStyle
unfolding style_of
said_is_style bytes style said =
    let r = read_on style_said (document_of bytes) style said in
    style_said-is r.0 style r.2
