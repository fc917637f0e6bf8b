-- Pages of nodes.
use Rattle.std.specs.Prelude.{◌&&◌, if◌then◌else◌}
use Rattle.std.proofs.lemmas.Bool.Decides.{nat_tests}
use Rattle.std.proofs.Math.ListN.{get_or-append}
use Rattle.std.proofs.lemmas.List.{length-set, length-append, get_or_default}
use Rattle.std.proofs.Math.Seq.{get_or-append_seam}
use Rattle.std.proofs.Common.{◌≡◌, ◌≢◌, ◌==◌, Bool, true, false, ℕ, zero, suc, ◌+◌, ◌-◌, ◌<◌, ◌≤◌, List, [], ◌∷◌, ◌++◌, length, map, set, get_or, get_or-set_other, get_or-set_same, Option, Some, None, refl, sym, ◌∙◌, ap, inl, inr, subst, arith}
use Rattle.std.proofs.lemmas.Bool.{cases_Bool}
use Rattle.rf_memo.specs.declared.page.Entry.{Entry}
use Rattle.rf_memo.specs.Page.{value_at, Puts}
use Rattle.rf_memo.specs.Memo.{entries_at, entries_by_node, OwnsPage, IsOwned, found, PutsAt, SameFound}
use Rattle.rf_memo.proofs.Entries.{if_true, if_false, same_key, other_key, entry, set_same}

get_map : {R : Type 0} (pages : List (ℕ × List R)) (places : List ℕ) (n : ℕ) → get_or (map (entries_at pages) places) n [] ≡ entries_at pages (get_or places n 0)
get_map pages [] zero = refl
get_map pages [] (suc n) = refl
get_map pages (p ∷ places) zero = refl
get_map pages (p ∷ places) (suc n) = get_map pages places n

-- what is found in the page at the node's place
pub found_page : {V : Type 0} (places : List ℕ) (pages : List (ℕ × List (Entry V))) (n c i : ℕ) →
    found (entries_by_node places pages) n c i ≡ value_at (entries_at pages (get_or places n 0)) c i
unfolding found entries_by_node
found_page {V = V} places pages n c i = ap (λ (es : List (Entry V)). value_at es c i) (get_map pages places n)

-- no place
no_entries : {R : Type 0} (pages : List (ℕ × List R)) (place : ℕ) → place ≡ 0 → entries_at pages place ≡ []
no_entries pages place e = if_true (place == 0) [] (get_or pages (place - 1) (0, [])).1 (same_key place 0 e)

some_entries : {R : Type 0} (pages : List (ℕ × List R)) (place : ℕ) → 0 < place → entries_at pages place ≡ (get_or pages (place - 1) (0, [])).1
some_entries pages place p = if_false (place == 0) [] (get_or pages (place - 1) (0, [])).1 (other_key place 0 (λ e. omega (arith, e, p)))

nothing_there : {V : Type 0} (pages : List (ℕ × List (Entry V))) (place c i : ℕ) → place ≡ 0 → value_at (entries_at pages place) c i ≡ None
unfolding value_at
nothing_there {V = V} pages place c i e = ap (λ (es : List (Entry V)). value_at es c i) (no_entries pages place e)

no_place : (k : ℕ) → get_or {A = ℕ} [] k 0 ≡ 0
no_place zero = refl
no_place (suc k) = refl

pub new_none : {V : Type 0} (places : List ℕ) (pages : List (ℕ × List (Entry V))) (n c i : ℕ) → places ≡ [] → found (entries_by_node places pages) n c i ≡ None
new_none {V = V} places pages n c i e = found_page places pages n c i ∙ nothing_there pages (get_or places n 0) c i (ap (λ (ps : List ℕ). get_or ps n 0) e ∙ no_place n)

pub none_owned : {R : Type 0} (places : List ℕ) (pages : List (ℕ × List R)) → places ≡ [] → IsOwned places pages
unfolding IsOwned
none_owned places pages e n p = absurd (omega (arith, p, ap (λ (ps : List ℕ). get_or ps n 0) e, no_place n))

past_end : (places : List ℕ) (n : ℕ) → length places ≤ n → get_or places n 0 ≡ 0
past_end [] zero p = refl
past_end [] (suc n) p = refl
past_end (x ∷ places) zero p = absurd (omega arith)
past_end (x ∷ places) (suc n) p = past_end places n (omega arith)

-- looking up: past the end, at no place, in a page
pub looked_past : {V : Type 0} (places : List ℕ) (pages : List (ℕ × List (Entry V))) (n c i : ℕ) → length places ≤ n → None ≡ found (entries_by_node places pages) n c i
looked_past places pages n c i p = sym (found_page places pages n c i ∙ nothing_there pages (get_or places n 0) c i (past_end places n p))

pub looked_nowhere : {V : Type 0} (places : List ℕ) (pages : List (ℕ × List (Entry V))) (n c i : ℕ) → get_or places n 0 ≡ 0 → None ≡ found (entries_by_node places pages) n c i
looked_nowhere places pages n c i e = sym (found_page places pages n c i ∙ nothing_there pages (get_or places n 0) c i e)

pub looked_in : {V : Type 0} (places : List ℕ) (pages : List (ℕ × List (Entry V))) (n c i place : ℕ) (page : ℕ × List (Entry V)) → place ≡ get_or places n 0 → (place ≡ 0 → ⊥) →
    IsOwned places pages → page ≡ get_or pages (place - 1) page → found (entries_by_node places pages) n c i ≡ value_at page.1 c i
unfolding IsOwned
looked_in {V = V} places pages n c i place page e q o d =
    let some : 0 < get_or places n 0 = omega (arith, e, q) in
    let owns = o n some in
    let same : entries_at pages (get_or places n 0) ≡ page.1 =
    ap (entries_at pages) (sym e) ∙ (some_entries pages place (omega (arith, q)) ∙ ap (λ (v : ℕ × List (Entry V)). v.1) (get_or_default pages (place - 1) (0, []) page (omega (arith, owns.within, e, some)) ∙ sym d)) in
    found_page places pages n c i ∙ ap (λ (es : List (Entry V)). value_at es c i) same

-- the place is of a page
pub place_within : {R : Type 0} (places : List ℕ) (pages : List (ℕ × List R)) (n place : ℕ) → place ≡ get_or places n 0 → (place ≡ 0 → ⊥) → IsOwned places pages → (0 < place) × (place ≤ length pages)
unfolding IsOwned
place_within places pages n place e q o =
    let some : 0 < get_or places n 0 = omega (arith, e, q) in
    let within = (o n some).within in
    (omega (arith, q), omega (arith, e, within))

-- places that read the same
pub owned_same : {R : Type 0} (places seen : List ℕ) (pages : List (ℕ × List R)) → ((n : ℕ) → get_or seen n 0 ≡ get_or places n 0) → IsOwned places pages → IsOwned seen pages
unfolding IsOwned
owned_same places seen pages h o n = subst (λ (p : ℕ). 0 < p → OwnsPage pages n p) (sym (h n)) (o n)

pub found_same : {V : Type 0} (places seen : List ℕ) (pages : List (ℕ × List (Entry V))) → ((n : ℕ) → get_or seen n 0 ≡ get_or places n 0) → SameFound (entries_by_node places pages) (entries_by_node seen pages)
found_same {V = V} places seen pages h n c i =
    found_page seen pages n c i ∙ (ap (λ (p : ℕ). value_at (entries_at pages p) c i) (h n) ∙ sym (found_page places pages n c i))

-- what is put beside places that read the same
pub puts_same : {V : Type 0} (old seen new : List (List (Entry V))) (node col indent : ℕ) (value : V) → SameFound old seen → PutsAt seen new node col indent value → PutsAt old new node col indent value
puts_same {V = V} old seen new node col indent value h p n c i =
    p n c i ∙ ap (λ (o : Option V). if (n == node) && ((c == col) && (i == indent)) then Some value else o) (h n c i)

pub same_same : {V : Type 0} (old seen new : List (List (Entry V))) → SameFound old seen → SameFound seen new → SameFound old new
same_same old seen new h p n c i = p n c i ∙ h n c i

keys_same : {R : Type 0} (pages : List (ℕ × R)) (k j : ℕ) (page d : ℕ × R) (new : R) → page ≡ get_or pages k page → (get_or (set pages k (page.0, new)) j d).0 ≡ (get_or pages j d).0
keys_same [] zero j page d new e = refl
keys_same [] (suc k) j page d new e = refl
keys_same {R = R} (x ∷ xs) zero zero page d new e = ap (λ (v : ℕ × R). v.0) e
keys_same (x ∷ xs) zero (suc j) page d new e = refl
keys_same (x ∷ xs) (suc k) zero page d new e = refl
keys_same (x ∷ xs) (suc k) (suc j) page d new e = keys_same xs k j page d new e

-- a page with new rows is still its node's
pub page_owned : {R : Type 0} (places : List ℕ) (pages : List (ℕ × List R)) (k : ℕ) (page : ℕ × List R) (new : List R) → page ≡ get_or pages k page → IsOwned places pages → IsOwned places (set pages k (page.0, new))
unfolding IsOwned
page_owned places pages k page new e o n p =
    let owns = o n p in
    record {
      within = omega (arith, owns.within, length-set pages k (page.0, new));
      owner = keys_same pages k (get_or places n 0 - 1) page (0, []) new e ∙ owns.owner;
    }

and_first : {V : Type 0} (a b : Bool) (x y : Option V) → a ≡ true → (if a && b then x else y) ≡ (if b then x else y)
and_first a b x y h = ap (λ (t : Bool). if t && b then x else y) h

and_none : {V : Type 0} (a b : Bool) (x y : Option V) → a ≡ false → (if a && b then x else y) ≡ y
and_none a b x y h = ap (λ (t : Bool). if t && b then x else y) h

not_both : (b : Bool) → b ≡ true → b ≡ false → ⊥
not_both b h k = cc

-- the rows of another node stay
other_entries : {R : Type 0} (places : List ℕ) (pages : List (ℕ × List R)) (n node place : ℕ) (page : ℕ × List R) (new : List R) → place ≡ get_or places node 0 → (place ≡ 0 → ⊥) → IsOwned places pages →
    (n ≡ node → ⊥) → entries_at (set pages (place - 1) (page.0, new)) (get_or places n 0) ≡ entries_at pages (get_or places n 0)
unfolding IsOwned
other_entries {R = R} places pages n node place page new e q o d =
    elim (cases_Bool (get_or places n 0 == 0)) [
      | inl h ↦
          let none : get_or places n 0 ≡ 0 = grind (arith, nat_tests) in
          no_entries (set pages (place - 1) (page.0, new)) (get_or places n 0) none ∙ sym (no_entries pages (get_or places n 0) none)
      | inr h ↦
          let some : 0 < get_or places n 0 = grind (arith, nat_tests) in
          let here : 0 < get_or places node 0 = omega (arith, e, q) in
          let apart : get_or places n 0 - 1 ≢ place - 1 = λ m. d (sym (o n some).owner ∙ (ap (λ (k : ℕ). (get_or pages k (0, [])).0) (m ∙ ap (λ (k : ℕ). k - 1) e) ∙ (o node here).owner)) in
          some_entries (set pages (place - 1) (page.0, new)) (get_or places n 0) some
          ∙ (ap (λ (v : ℕ × List R). v.1) (get_or-set_other pages (place - 1) (get_or places n 0 - 1) (page.0, new) (0, []) apart)
          ∙ sym (some_entries pages (get_or places n 0) some))
    ]

-- a value that is put in the page of its node
pub page_puts : {V : Type 0} (places : List ℕ) (pages : List (ℕ × List (Entry V))) (node place col indent : ℕ) (page : ℕ × List (Entry V)) (new : List (Entry V)) (value : V) →
    place ≡ get_or places node 0 → (place ≡ 0 → ⊥) → IsOwned places pages → page ≡ get_or pages (place - 1) page → Puts page.1 new col indent value →
    PutsAt (entries_by_node places pages) (entries_by_node places (set pages (place - 1) (page.0, new))) node col indent value
page_puts {V = V} places pages node place col indent page new value e q o d p n c i =
    let within = place_within places pages node place e q o in
    elim (cases_Bool (n == node)) [
      | inl h ↦
          let is : n ≡ node = grind (arith, nat_tests) in
          let at : get_or places n 0 ≡ place = ap (λ (k : ℕ). get_or places k 0) is ∙ sym e in
          let less : place - 1 < length pages = omega (arith, within.0, within.1) in
          let rows : entries_at (set pages (place - 1) (page.0, new)) (get_or places n 0) ≡ new =
          ap (entries_at (set pages (place - 1) (page.0, new))) at
          ∙ (some_entries (set pages (place - 1) (page.0, new)) place within.0 ∙ ap (λ (v : ℕ × List (Entry V)). v.1) (get_or-set_same pages (place - 1) (page.0, new) (0, []) less)) in
          found_page places (set pages (place - 1) (page.0, new)) n c i
          ∙ (ap (λ (es : List (Entry V)). value_at es c i) rows
          ∙ (p c i
          ∙ (ap (λ (x : Option V). if (c == col) && (i == indent) then Some value else x) (sym (looked_in places pages n c i place page (sym at) q o d))
          ∙ sym (and_first (n == node) ((c == col) && (i == indent)) (Some value) (found (entries_by_node places pages) n c i) h))))
      | inr h ↦
          let other : n ≡ node → ⊥ = λ m. not_both (n == node) (same_key n node m) h in
          found_page places (set pages (place - 1) (page.0, new)) n c i
          ∙ (ap (λ (es : List (Entry V)). value_at es c i) (other_entries places pages n node place page new e q o other)
          ∙ (sym (found_page places pages n c i)
          ∙ sym (and_none (n == node) ((c == col) && (i == indent)) (Some value) (found (entries_by_node places pages) n c i) h)))
    ]

pub page_same : {V : Type 0} (places : List ℕ) (pages : List (ℕ × List (Entry V))) (k : ℕ) (page : ℕ × List (Entry V)) (new : List (Entry V)) → page ≡ get_or pages k page → new ≡ page.1 →
    SameFound (entries_by_node places pages) (entries_by_node places (set pages k (page.0, new)))
page_same {V = V} places pages k page new e s n c i = ap (λ (ps : List (ℕ × List (Entry V))). found (entries_by_node places ps) n c i) (set_same pages k page new e s)

-- the new page is its node's
pub first_owned : {R : Type 0} (places after : List ℕ) (pages more : List (ℕ × List R)) (node place : ℕ) (rows : List R) → after ≡ set places node place → place ≡ length pages + 1 → more ≡ pages ++ (node, rows) ∷ [] →
    node < length places → IsOwned places pages → IsOwned after more
unfolding IsOwned
first_owned {R = R} places after pages more node place rows a s m l o n p =
    let read : get_or after n 0 ≡ get_or (set places node place) n 0 = ap (λ (ps : List ℕ). get_or ps n 0) a in
    let longer : length more ≡ length pages + 1 = omega (arith, ap length m, length-append pages ((node, rows) ∷ [])) in
    elim (cases_Bool (n == node)) [
      | inl h ↦
          let is : n ≡ node = grind (arith, nat_tests) in
          let at : get_or after n 0 ≡ place = read ∙ (ap (λ (k : ℕ). get_or (set places node place) k 0) is ∙ get_or-set_same places node place 0 l) in
          let last : get_or after n 0 - 1 ≡ length pages = omega (arith, at, s) in
          let d : ℕ × List R = (0, []) in
          let x : ℕ × List R = (node, rows) in
          record {
            within = omega (arith, at, s, longer);
            owner = ap (λ (k : ℕ). (get_or more k (0, [])).0) last ∙ (ap (λ (ps : List (ℕ × List R)). (get_or ps (length pages) (0, [])).0) m
                ∙ (ap (λ (v : ℕ × List R). v.0) (get_or-append_seam pages x [] d) ∙ sym is));
          }
      | inr h ↦
          let apart : n ≢ node = λ q. not_both (n == node) (same_key n node q) h in
          let at : get_or after n 0 ≡ get_or places n 0 = read ∙ get_or-set_other places node n place 0 apart in
          let owns = o n (omega (arith, at, p)) in
          let less : get_or places n 0 - 1 < length pages = omega (arith, at, p, owns.within) in
          let d : ℕ × List R = (0, []) in
          record {
            within = omega (arith, at, owns.within, longer);
            owner = ap (λ (k : ℕ). (get_or more (k - 1) (0, [])).0) at ∙ (ap (λ (ps : List (ℕ × List R)). (get_or ps (get_or places n 0 - 1) (0, [])).0) m
                ∙ (ap (λ (v : ℕ × List R). v.0) (get_or-append pages ((node, rows) ∷ []) d (get_or places n 0 - 1) less) ∙ owns.owner));
          }
    ]

more_entries : {R : Type 0} (places : List ℕ) (pages more : List (ℕ × List R)) (n node : ℕ) (rows : List R) → more ≡ pages ++ (node, rows) ∷ [] → IsOwned places pages → entries_at more (get_or places n 0) ≡ entries_at pages (get_or places n 0)
unfolding IsOwned
more_entries {R = R} places pages more n node rows m o =
    elim (cases_Bool (get_or places n 0 == 0)) [
      | inl h ↦
          let none : get_or places n 0 ≡ 0 = grind (arith, nat_tests) in
          no_entries more (get_or places n 0) none ∙ sym (no_entries pages (get_or places n 0) none)
      | inr h ↦
          let some : 0 < get_or places n 0 = grind (arith, nat_tests) in
          let within = (o n some).within in
          let d : ℕ × List R = (0, []) in
          some_entries more (get_or places n 0) some
          ∙ (ap (λ (ps : List (ℕ × List R)). (get_or ps (get_or places n 0 - 1) (0, [])).1) m
          ∙ (ap (λ (v : ℕ × List R). v.1) (get_or-append pages ((node, rows) ∷ []) d (get_or places n 0 - 1) (omega (arith, within, some)))
          ∙ sym (some_entries pages (get_or places n 0) some)))
    ]

pub first_puts : {V : Type 0} (places after : List ℕ) (pages more : List (ℕ × List (Entry V))) (node place col indent : ℕ) (page : List (Entry V)) (value : V) →
    after ≡ set places node place → place ≡ length pages + 1 → more ≡ pages ++ (node, page) ∷ [] → page ≡ entry col indent value ∷ [] → node < length places → get_or places node 0 ≡ 0 → IsOwned places pages →
    PutsAt (entries_by_node places pages) (entries_by_node after more) node col indent value
unfolding IsOwned value_at
first_puts {V = V} places after pages more node place col indent page value a s m r l z o n c i =
    let read : get_or after n 0 ≡ get_or (set places node place) n 0 = ap (λ (ps : List ℕ). get_or ps n 0) a in
    elim (cases_Bool (n == node)) [
      | inl h ↦
          let is : n ≡ node = grind (arith, nat_tests) in
          let at : get_or after n 0 ≡ place = read ∙ (ap (λ (k : ℕ). get_or (set places node place) k 0) is ∙ get_or-set_same places node place 0 l) in
          let some : 0 < get_or after n 0 = omega (arith, at, s) in
          let last : get_or after n 0 - 1 ≡ length pages = omega (arith, at, s) in
          let d : ℕ × List (Entry V) = (0, []) in
          let x : ℕ × List (Entry V) = (node, page) in
          let there : entries_at more (get_or after n 0) ≡ entry col indent value ∷ [] =
          some_entries more (get_or after n 0) some
          ∙ (ap (λ (k : ℕ). (get_or more k (0, [])).1) last
          ∙ (ap (λ (ps : List (ℕ × List (Entry V))). (get_or ps (length pages) (0, [])).1) m
          ∙ (ap (λ (v : ℕ × List (Entry V)). v.1) (get_or-append_seam pages x [] d)
          ∙ r))) in
          let none : found (entries_by_node places pages) n c i ≡ None = sym (looked_nowhere places pages n c i (ap (λ (k : ℕ). get_or places k 0) is ∙ z)) in
          found_page after more n c i
          ∙ (ap (λ (es : List (Entry V)). value_at es c i) there
          ∙ (ap (λ (t : Option V). if (c == col) && (i == indent) then Some value else t) (sym none)
          ∙ sym (and_first (n == node) ((c == col) && (i == indent)) (Some value) (found (entries_by_node places pages) n c i) h)))
      | inr h ↦
          let apart : n ≢ node = λ q. not_both (n == node) (same_key n node q) h in
          let at : get_or after n 0 ≡ get_or places n 0 = read ∙ get_or-set_other places node n place 0 apart in
          found_page after more n c i
          ∙ (ap (λ (k : ℕ). value_at (entries_at more k) c i) at
          ∙ (ap (λ (es : List (Entry V)). value_at es c i) (more_entries places pages more n node page m o)
          ∙ (sym (found_page places pages n c i)
          ∙ sym (and_none (n == node) ((c == col) && (i == indent)) (Some value) (found (entries_by_node places pages) n c i) h))))
    ]

-- the same, by what was read
pub looked_at : {V : Type 0} (places : List ℕ) (pages : List (ℕ × List (Entry V))) (n c i : ℕ) (read : ℕ × List (Entry V)) → (get_or places n 0 ≡ 0 → ⊥) → IsOwned places pages →
    found (entries_by_node places pages) n c i ≡ value_at (get_or pages (get_or places n 0 - 1) read).1 c i
looked_at {V = V} places pages n c i read q o =
    let within = place_within places pages n (get_or places n 0) refl q o in
    let less : get_or places n 0 - 1 < length pages = omega (arith, within.0, within.1) in
    looked_in places pages n c i (get_or places n 0) (get_or pages (get_or places n 0 - 1) read) refl q o
    (get_or_default pages (get_or places n 0 - 1) read (get_or pages (get_or places n 0 - 1) read) less)

pub place_read : (places : List ℕ) (node place : ℕ) → place ≡ get_or places node place → node < length places → place ≡ get_or places node 0
place_read places node place e p = e ∙ get_or_default places node place 0 p

-- no value at the key, seen from the node's page
pub page_new : {V : Type 0} (places seen : List ℕ) (pages : List (ℕ × List (Entry V))) (n c i place : ℕ) (page : ℕ × List (Entry V)) → ((k : ℕ) → get_or seen k 0 ≡ get_or places k 0) →
    place ≡ get_or seen n 0 → (place ≡ 0 → ⊥) → IsOwned places pages → page ≡ get_or pages (place - 1) page → found (entries_by_node places pages) n c i ≡ None → value_at page.1 c i ≡ None
page_new places seen pages n c i place page h e q o d f = sym (looked_in places pages n c i place page (e ∙ h n) q o d) ∙ f

-- what the fields hold is what was seen of them
pub seen_found : {V : Type 0} (places seen : List ℕ) (pages read : List (ℕ × List (Entry V))) (memo : List (List (Entry V))) (n c i : ℕ) (o : Option V) → seen ≡ places → read ≡ pages → entries_by_node places pages ≡ memo →
    o ≡ found (entries_by_node seen read) n c i → o ≡ found memo n c i
seen_found {V = V} places seen pages read memo n c i o p q v h =
    h ∙ (ap (λ (ps : List ℕ). found (entries_by_node ps read) n c i) p
    ∙ (ap (λ (gs : List (ℕ × List (Entry V))). found (entries_by_node places gs) n c i) q
    ∙ ap (λ (m : List (List (Entry V))). found m n c i) v))
