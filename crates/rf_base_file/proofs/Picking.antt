-- Which resolution choices pick, computed, and the text of its layout.
use Rattle.std.proofs.Common.{◌≡◌, ℕ, inl, inr, false, List, [], ◌∷◌, ◌++◌, refl, sym, ◌∙◌, ap, subst, append_assoc, append-nil, Option, Some, None}
use Rattle.std.specs.Prelude.{map}
use Rattle.rf_base_document.specs.declared.directions.Dir.{Dir}
use Rattle.rf_base_document.specs.declared.directions.Dir.TheVariants.{Left, Right}
use Rattle.rf_base_document.specs.Document.{Doc, Text, Newline, Hard, Concat, Nest, Align, Reset, Flatten, Choice, Only, Charge}
use Rattle.rf_base_document.specs.Render.{Laid, render, layout}
use Rattle.rf_base_document.specs.Picks.{Picks, LaidOutBy}

-- a resolution, and the directions that it left over
pub record Taken : Type 0 where
  pub resolution : Doc
  pub left : List Dir

abbrev pub taken : Doc → List Dir → Taken
taken resolution left = record { resolution = resolution; left = left }

-- the resolution built of one
abbrev pub wrapped : (Doc → Doc) → Option Taken → Option Taken
wrapped f None = None
wrapped f (Some t) = Some (taken (f t.resolution) t.left)

-- a resolution, and then one of what it left over
abbrev pub then_taken : Option Taken → (List Dir → Option Taken) → Option Taken
then_taken None rest = None
then_taken (Some t) rest = wrapped (Concat t.resolution) (rest t.left)

-- which side the next direction takes
abbrev pub by_direction : List Dir → (List Dir → Option Taken) → (List Dir → Option Taken) → Option Taken
by_direction [] first second = None
by_direction (Left ∷ choices) first second = first choices
by_direction (Right ∷ choices) first second = second choices

-- the resolution that these choices pick, of a document without an `Only` and without a charge
unfoldable pub resolved : Doc → List Dir → Option Taken
resolved (Text s len) choices = Some (taken (Text s len) choices)
resolved Newline choices = Some (taken Newline choices)
resolved Hard choices = Some (taken Hard choices)
resolved (Concat a b) choices = then_taken (resolved a choices) (resolved b)
resolved (Nest n a) choices = wrapped (Nest n) (resolved a choices)
resolved (Align a) choices = wrapped Align (resolved a choices)
resolved (Reset a) choices = wrapped Reset (resolved a choices)
resolved (Flatten a) choices = wrapped Flatten (resolved a choices)
resolved (Choice a b) choices = by_direction choices (resolved a) (resolved b)
resolved _ choices = None

-- the text of the layout at column 0 and indentation 0, if no direction is left over
abbrev pub shown : Option Laid → Option (List ℕ)
shown None = None
shown (Some whole) = Some (layout whole.pieces)

abbrev pub shown_if_used : Doc → List Dir → Option (List ℕ)
shown_if_used resolution [] = shown (render resolution 0 0 false)
shown_if_used resolution (dir ∷ left) = None

abbrev pub shown_of : Option Taken → Option (List ℕ)
shown_of None = None
shown_of (Some t) = shown_if_used t.resolution t.left

abbrev pub text_by : Doc → List Dir → Option (List ℕ)
text_by d choices = shown_of (resolved d choices)

-- these choices pick a resolution of the document, and its layout is this text
abbrev pub Writes : Doc → List Dir → List ℕ → Type 0
Writes d choices text = (whole : Laid) × LaidOutBy d choices 0 0 false whole × (text ≡ layout whole.pieces)

-- the directions that were taken pick the resolution
abbrev Comes : Doc → List Dir → Taken → Type 0
Comes d choices t = (front : List Dir) × (choices ≡ front ++ t.left) × Picks d front t.resolution

abbrev AllCome : Doc → List Dir → Option Taken → Type 0
AllCome d choices o = (t : Taken) → o ≡ Some t → Comes d choices t

same_comes : (d : Doc) (choices : List Dir) (t u : Taken) → Some t ≡ Some u → Comes d choices t → Comes d choices u
same_comes d choices t u e h = let same : t ≡ u = cc in subst (λ (v : Taken). Comes d choices v) same h

wrapped_comes : (f : Doc → Doc) (a d : Doc) (choices : List Dir) (o : Option Taken) →
    ((front : List Dir) (p : Doc) → Picks a front p → Picks d front (f p)) →
    AllCome a choices o → AllCome d choices (wrapped f o)
wrapped_comes f a d choices None step h u e = cc
wrapped_comes f a d choices (Some t) step h u e =
    let came = h t refl in
    same_comes d choices (taken (f t.resolution) t.left) u e (came.0, came.1, step came.0 t.resolution came.2)

second_comes : (a b : Doc) (choices : List Dir) (t : Taken) (o : Option Taken) → Comes a choices t →
    AllCome b t.left o →
    AllCome (Concat a b) choices (wrapped (Concat t.resolution) o)
unfolding Picks
second_comes a b choices t None h k v e = cc
second_comes a b choices t (Some u) h k v e =
    let came = k u refl in
    same_comes (Concat a b) choices (taken (Concat t.resolution u.resolution) u.left) v e (
      h.0 ++ came.0,
      h.1 ∙ ap (λ cs. h.0 ++ cs) came.1 ∙ sym (append_assoc h.0 came.0 u.left),
      (h.0, came.0, t.resolution, u.resolution, refl, refl, h.2, came.2),
    )

both_come : (a b : Doc) (choices : List Dir) (o : Option Taken) (rest : List Dir → Option Taken) → AllCome a choices o →
    ((left : List Dir) → AllCome b left (rest left)) → AllCome (Concat a b) choices (then_taken o rest)
both_come a b choices None rest h k u e = cc
both_come a b choices (Some t) rest h k u e = second_comes a b choices t (rest t.left) (h t refl) (k t.left) u e

side_comes : (a b : Doc) (choices : List Dir) (first second : List Dir → Option Taken) →
    ((left : List Dir) → AllCome a left (first left)) →
    ((left : List Dir) → AllCome b left (second left)) →
    AllCome (Choice a b) choices (by_direction choices first second)
unfolding Picks
side_comes a b [] first second h k t e = cc
side_comes a b (Left ∷ choices) first second h k t e =
    let came = h choices t e in
    (Left ∷ came.0, ap (λ cs. Left ∷ cs) came.1, (came.0, inl (refl, came.2)))
side_comes a b (Right ∷ choices) first second h k t e =
    let came = k choices t e in
    (Right ∷ came.0, ap (λ cs. Right ∷ cs) came.1, (came.0, inr (refl, came.2)))

resolved_comes : (d : Doc) (choices : List Dir) → AllCome d choices (resolved d choices)
unfolding resolved Picks
resolved_comes (Text s len) choices t e = same_comes (Text s len) choices (taken (Text s len) choices) t e (
  [],
  refl,
  (refl, refl),
)
resolved_comes Newline choices t e = same_comes Newline choices (taken Newline choices) t e ([], refl, (refl, refl))
resolved_comes Hard choices t e = same_comes Hard choices (taken Hard choices) t e ([], refl, (refl, refl))
resolved_comes (Concat a b) choices t e =
    both_come a b choices (resolved a choices) (resolved b) (resolved_comes a choices)
    (λ left. resolved_comes b left) t e
resolved_comes (Nest n a) choices t e = wrapped_comes (Nest n) a (Nest n a) choices (resolved a choices) (λ front p h. (
  p,
  refl,
  h,
)) (resolved_comes a choices) t e
resolved_comes (Align a) choices t e = wrapped_comes Align a (Align a) choices (resolved a choices) (λ front p h. (
  p,
  refl,
  h,
)) (resolved_comes a choices) t e
resolved_comes (Reset a) choices t e = wrapped_comes Reset a (Reset a) choices (resolved a choices) (λ front p h. (
  p,
  refl,
  h,
)) (resolved_comes a choices) t e
resolved_comes (Flatten a) choices t e =
    wrapped_comes Flatten a (Flatten a) choices (resolved a choices) (λ front p h. (p, refl, h))
    (resolved_comes a choices) t e
resolved_comes (Choice a b) choices t e =
    side_comes a b choices (resolved a) (resolved b) (λ left. resolved_comes a left) (λ left. resolved_comes b left) t e
resolved_comes _ choices t e = cc

shown_is : (o : Option Laid) (text : List ℕ) → shown o ≡ Some text →
    (whole : Laid) × (o ≡ Some whole) × (text ≡ layout whole.pieces)
shown_is None text e = cc
shown_is (Some whole) text e = (whole, refl, cc)

used_writes : (d resolution : Doc) (choices left : List Dir) (text : List ℕ) → Comes d choices (taken resolution left) →
    shown_if_used resolution left ≡ Some text → Writes d choices text
used_writes d resolution choices [] text h e =
    let found = shown_is (render resolution 0 0 false) text e in
    let front : choices ≡ h.0 = h.1 ∙ append-nil h.0 in
    (found.0, (resolution, subst (λ (cs : List Dir). Picks d cs resolution) (sym front) h.2, found.1), found.2)
used_writes d resolution choices (dir ∷ left) text h e = cc

of_writes : (d : Doc) (choices : List Dir) (o : Option Taken) (text : List ℕ) → AllCome d choices o →
    shown_of o ≡ Some text → Writes d choices text
of_writes d choices None text h e = cc
of_writes d choices (Some t) text h e = used_writes d t.resolution choices t.left text (h t refl) e

text_by-writes : (d : Doc) (choices : List Dir) (text : List ℕ) → text_by d choices ≡ Some text →
    Writes d choices text
text_by-writes d choices text e = of_writes d choices (resolved d choices) text (resolved_comes d choices) e

-- these choices write this text, or nothing is computed of them
abbrev pub Told : Doc → List Dir → Option (List ℕ) → Type 0
Told d choices None = text_by d choices ≡ None
Told d choices (Some text) = Writes d choices text

abbrev pub EachTold : Doc → List (List Dir × Option (List ℕ)) → Type 0
EachTold d [] = Unit
EachTold d (row ∷ rows) = Told d row.0 row.1 × EachTold d rows

told : (d : Doc) (choices : List Dir) (answer : Option (List ℕ)) → text_by d choices ≡ answer → Told d choices answer
told d choices None e = e
told d choices (Some text) e = text_by-writes d choices text e

-- what is computed is so
pub each_told : (d : Doc) (rows : List (List Dir × Option (List ℕ))) →
    map (λ row. text_by d row.0) rows ≡ map (λ row. row.1) rows → EachTold d rows
each_told d [] e = tt
each_told d (row ∷ rows) e = (told d row.0 row.1 cc, each_told d rows cc)
