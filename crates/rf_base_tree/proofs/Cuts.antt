-- Entries are cut into the slots that are computed, and into no others.
use Rattle.std.proofs.Common.{◌≡◌, ◌≢◌, ◌↔◌, Bool, true, false, Option, None, Some, List, [], ◌∷◌, ◌++◌, refl, sym, ap, ◌∙◌, subst}
use Rattle.std.specs.Prelude.{◌&&◌, map}
use Rattle.std.specs.Option.{option_map}
use Rattle.std.proofs.lemmas.Bool.{false≢true}
use Rattle.std.proofs.lemmas.List.{append_assoc, append-nil}
use Rattle.rf_base_tree.specs.Slots.{Sort, Remark, Keyword, Dotted, Datum, Entry, Slot, perhaps, is_comment, may_be_key, AreLeads, MayStandTogether, MayTrail, BeginsNot, MayEnd, AreSlots}
use Rattle.rf_base_tree.specs.Cut.{slot, behind_comment, unless_empty, alone, trailed_by, before_leads, behind_datum, keyed_by, before_parts, behind_key, put_by, slots_of}

-- one comment more before the others
more_leads : {A : Type 0} (in_list : Bool) (e : Entry A) (leads : List (Entry A)) (key datum : Option (Entry A)) →
    MayStandTogether in_list leads key datum → MayStandTogether in_list (e ∷ leads) key datum
more_leads in_list e leads None None h = λ z. cc
more_leads in_list e leads (Some k) None h = absurd h
more_leads in_list e leads _ _ h = h

comment_cut : {A : Type 0} (in_list : Bool) (e : Entry A) (es : List (Entry A)) (slots : List (Slot A)) →
    is_comment e.sort ≡ true → AreSlots in_list es slots → AreSlots in_list (e ∷ es) (behind_comment e slots)
comment_cut in_list e es [] c h = (es, refl, (c, tt), λ z. cc, tt, h, h)
comment_cut in_list e es (s ∷ slots) c h =
    (h.0, ap (λ xs. e ∷ xs) h.1, (c, h.2), more_leads in_list e s.leads s.key s.datum h.3, h.4, h.5, h.6)

-- what stands first isn't of this sort
not_first : {A : Type 0} (sort : Sort) (es xs : List (Entry A)) → es ≡ xs → BeginsNot sort xs → BeginsNot sort es
not_first sort es xs e h = subst (λ ys. BeginsNot sort ys) (sym e) h

plain_sort : (sort : Sort) → is_comment sort ≡ false → sort ≢ Remark true
plain_sort sort c e = false≢true (sym c ∙ ap is_comment e)

key_plain : (sort : Sort) → may_be_key sort ≡ true → is_comment sort ≡ false
key_plain Keyword h = refl
key_plain Dotted h = refl
key_plain _ h = cc

key_no_datum : (sort : Sort) → may_be_key sort ≡ true → sort ≢ Datum
key_no_datum sort k e = false≢true (ap may_be_key (sym e) ∙ k)

comment_no_datum : (sort : Sort) → is_comment sort ≡ true → sort ≢ Datum
comment_no_datum sort k e = false≢true (ap is_comment (sym e) ∙ k)

-- without comments before it a slot doesn't begin with a comment
begins_plain : {A : Type 0} (in_list : Bool) (key datum trailing : Option (Entry A)) (after : List (Entry A)) →
    MayStandTogether in_list [] key datum →
    BeginsNot (Remark true) (perhaps key (perhaps datum (perhaps trailing [])) ++ after)
begins_plain in_list (Some k) (Some d) trailing after h = plain_sort k.sort (key_plain k.sort h.1)
begins_plain in_list None (Some d) trailing after h = plain_sort d.sort h
begins_plain in_list None None trailing after h = absurd (h refl)
begins_plain in_list (Some k) None trailing after h = absurd h

-- what is left of a slot whose first comment was taken away
rest_cut : {A : Type 0} (in_list : Bool) (c : Entry A) (leads : List (Entry A)) (key datum trailing : Option (Entry A))
    (after : List (Entry A)) (slots : List (Slot A)) → AreLeads leads → MayStandTogether in_list (c ∷ leads) key datum →
    MayTrail datum trailing → MayEnd in_list key datum trailing after → AreSlots in_list after slots →
    AreSlots in_list ((leads ++ perhaps key (perhaps datum (perhaps trailing []))) ++ after)
    (unless_empty leads key datum trailing slots)
rest_cut in_list c [] None None None after slots l h t m s = s
rest_cut in_list c [] None None (Some x) after slots l h t m s = absurd t
rest_cut in_list c [] (Some k) None trailing after slots l h t m s = absurd h
rest_cut in_list c (e ∷ leads) None None trailing after slots l h t m s = (after, refl, l, λ z. cc, t, m, s)
rest_cut in_list c (e ∷ leads) (Some k) None trailing after slots l h t m s = absurd h
rest_cut in_list c _ _ _ trailing after slots l h t m s = (after, refl, l, h, t, m, s)

-- a datum alone in a slot, before others
alone_cut : {A : Type 0} (in_list : Bool) (e : Entry A) (es : List (Entry A)) (slots : List (Slot A)) →
    is_comment e.sort ≡ false → ((in_list && may_be_key e.sort) ≡ true → BeginsNot Datum es) →
    BeginsNot (Remark true) es → AreSlots in_list es slots → AreSlots in_list (e ∷ es) (alone e slots)
alone_cut in_list e es slots c k n h = (es, refl, tt, c, tt, (n, k), h)

datum_cut : {A : Type 0} (in_list : Bool) (e : Entry A) (es : List (Entry A)) (slots : List (Slot A)) →
    is_comment e.sort ≡ false → ((in_list && may_be_key e.sort) ≡ true → BeginsNot Datum es) →
    AreSlots in_list es slots → AreSlots in_list (e ∷ es) (behind_datum e slots)
datum_cut in_list e es [] c k h = alone_cut in_list e es [] c k (subst (λ xs. BeginsNot (Remark true) xs) (sym h) tt) h
datum_cut in_list e es (s ∷ slots) c k h =
    by_leads s.leads (h.1) h.2 h.3
  where
    by_sort : (sort : Sort) (l : Entry _) (leads : List (Entry _)) → l.sort ≡ sort →
        es ≡ ((l ∷ leads) ++ perhaps s.key (perhaps s.datum (perhaps s.trailing []))) ++ h.0 → AreLeads (l ∷ leads) →
        MayStandTogether in_list (l ∷ leads) s.key s.datum →
        AreSlots in_list (e ∷ es) (trailed_by sort e l leads s slots)
    by_sort (Remark true) l leads o q a m = (
      (leads ++ perhaps s.key (perhaps s.datum (perhaps s.trailing [])))
          ++ h.0,
      ap (λ xs. e
          ∷ xs) q,
      tt,
      c,
      o,
      tt,
      rest_cut in_list l leads s.key s.datum s.trailing h.0 slots a.1 m h.4 h.5 h.6,
    )
    by_sort (Remark false) l leads o q a m =
        alone_cut in_list e es (s ∷ slots) c k (not_first (Remark true) es _ q (λ z. cc)) h
    by_sort Keyword l leads o q a m =
        alone_cut in_list e es (s ∷ slots) c k (not_first (Remark true) es _ q (λ z. cc)) h
    by_sort Dotted l leads o q a m = alone_cut in_list e es (s ∷ slots) c k (not_first (Remark true) es _ q (λ z. cc)) h
    by_sort Datum l leads o q a m = alone_cut in_list e es (s ∷ slots) c k (not_first (Remark true) es _ q (λ z. cc)) h

    by_leads : (leads : List (Entry _)) →
        es ≡ (leads ++ perhaps s.key (perhaps s.datum (perhaps s.trailing []))) ++ h.0 → AreLeads leads →
        MayStandTogether in_list leads s.key s.datum → AreSlots in_list (e ∷ es) (before_leads e leads s slots)
    by_leads [] q a m =
        alone_cut in_list e es (s
        ∷ slots) c k (not_first (Remark true) es _ q (begins_plain in_list s.key s.datum s.trailing h.0 m)) h
    by_leads (l ∷ leads) q a m = by_sort l.sort l leads refl q a m

key_cut : {A : Type 0} (in_list : Bool) (e : Entry A) (es : List (Entry A)) (slots : List (Slot A)) → in_list ≡ true →
    may_be_key e.sort ≡ true → AreSlots in_list es slots → AreSlots in_list (e ∷ es) (behind_key e slots)
key_cut in_list e es [] b k h =
    datum_cut in_list e es [] (key_plain e.sort k) (λ z. subst (λ xs. BeginsNot Datum xs) (sym h) tt) h
key_cut in_list e es (s ∷ slots) b k h =
    by_parts s.leads s.key s.datum refl refl refl h.1 h.2 h.3 h.5
  where
    plainly : BeginsNot Datum es → AreSlots in_list (e ∷ es) (behind_datum e (s ∷ slots))
    plainly n = datum_cut in_list e es (s ∷ slots) (key_plain e.sort k) (λ z. n) h

    by_sort : (sort : Sort) (d : Entry _) → d.sort ≡ sort → es ≡ d ∷ (perhaps s.trailing [] ++ h.0) →
        MayTrail (Some d) s.trailing → MayEnd in_list None (Some d) s.trailing h.0 →
        AreSlots in_list (e ∷ es) (keyed_by sort e d s slots)
    by_sort Datum d o q t m = (h.0, ap (λ xs. e ∷ xs) q, tt, (b, k, o), t, by_trailing s.trailing m, h.6)
      where
        by_trailing : (trailing : Option (Entry _)) → MayEnd in_list None (Some d) trailing h.0 →
            MayEnd in_list (Some e) (Some d) trailing h.0
        by_trailing (Some x) n = tt
        by_trailing None n = n.0
    by_sort (Remark x) d o q t m = plainly (not_first Datum es _ q (λ z. cc))
    by_sort Keyword d o q t m = plainly (not_first Datum es _ q (λ z. cc))
    by_sort Dotted d o q t m = plainly (not_first Datum es _ q (λ z. cc))

    by_parts : (leads : List (Entry _)) (key datum : Option (Entry _)) → s.leads ≡ leads → s.key ≡ key →
        s.datum ≡ datum → es ≡ (leads ++ perhaps key (perhaps datum (perhaps s.trailing []))) ++ h.0 → AreLeads leads →
        MayStandTogether in_list leads key datum → MayEnd in_list key datum s.trailing h.0 →
        AreSlots in_list (e ∷ es) (before_parts e leads key datum s slots)
    by_parts [] None (Some d) l x y q a t m = by_sort d.sort d refl q (subst (λ o. MayTrail o s.trailing) y h.4) m
    by_parts [] (Some u) (Some d) l x y q a t m = plainly (not_first Datum es _ q (key_no_datum u.sort t.1))
    by_parts [] None None l x y q a t m = absurd (t refl)
    by_parts [] (Some u) None l x y q a t m = absurd t
    by_parts (c ∷ leads) None None l x y q a t m = plainly (not_first Datum es _ q (comment_no_datum c.sort a.0))
    by_parts (c ∷ leads) (Some u) None l x y q a t m = plainly (not_first Datum es _ q (comment_no_datum c.sort a.0))
    by_parts (c ∷ leads) None (Some d) l x y q a t m = plainly (not_first Datum es _ q (comment_no_datum c.sort a.0))
    by_parts (c ∷ leads) (Some u) (Some d) l x y q a t m =
        plainly (not_first Datum es _ q (comment_no_datum c.sort a.0))

put_cut : {A : Type 0} (in_list : Bool) (sort : Sort) (e : Entry A) (es : List (Entry A)) (slots : List (Slot A)) →
    e.sort ≡ sort → AreSlots in_list es slots → AreSlots in_list (e ∷ es) (put_by in_list sort e slots)
put_cut in_list (Remark t) e es slots o h = comment_cut in_list e es slots (ap is_comment o) h
put_cut in_list Datum e es slots o h = datum_cut in_list e es slots (ap is_comment o) (λ z. absurd (no_key in_list z)) h
  where
    no_key : (b : Bool) → (b && may_be_key e.sort) ≡ true → ⊥
    no_key true z = false≢true (sym (ap may_be_key o) ∙ z)
    no_key false z = false≢true z
put_cut false Keyword e es slots o h = datum_cut false e es slots (ap is_comment o) (λ z. absurd (false≢true z)) h
put_cut false Dotted e es slots o h = datum_cut false e es slots (ap is_comment o) (λ z. absurd (false≢true z)) h
put_cut _ _ e es slots o h = key_cut true e es slots refl (ap may_be_key o) h

-- the slots computed are slots of the entries
pub slots_of_cut : {A : Type 0} (in_list : Bool) (es : List (Entry A)) → AreSlots in_list es (slots_of in_list es)
unfolding slots_of
slots_of_cut in_list [] = refl
slots_of_cut in_list (e ∷ es) = put_cut in_list e.sort e es (slots_of in_list es) refl (slots_of_cut in_list es)

-- a comment before slots
put_comment : {A : Type 0} (in_list : Bool) (sort : Sort) (e : Entry A) (slots : List (Slot A)) →
    is_comment sort ≡ true → put_by in_list sort e slots ≡ behind_comment e slots
put_comment in_list (Remark t) e slots c = refl
put_comment in_list _ e slots c = absurd (false≢true c)

-- comments before the first slot
leads_before : {A : Type 0} (in_list : Bool) (leads front rest : List (Entry A)) (key datum trailing : Option (Entry A))
    (slots : List (Slot A)) → AreLeads leads → slots_of in_list rest ≡ slot front key datum trailing ∷ slots →
    slots_of in_list (leads ++ rest) ≡ slot (leads ++ front) key datum trailing ∷ slots
unfolding slots_of
leads_before in_list [] front rest key datum trailing slots a h = h
leads_before in_list (e ∷ leads) front rest key datum trailing slots a h =
    put_comment in_list e.sort e (slots_of in_list (leads ++ rest)) a.0
    ∙ ap (λ ss. behind_comment e ss) (leads_before in_list leads front rest key datum trailing slots a.1 h)

only_leads : {A : Type 0} (in_list : Bool) (leads : List (Entry A)) → AreLeads leads → leads ≢ [] →
    slots_of in_list leads ≡ slot leads None None None ∷ []
unfolding slots_of
only_leads in_list [] a n = absurd (n refl)
only_leads in_list (e ∷ []) a n = put_comment in_list e.sort e [] a.0
only_leads in_list (e ∷ d ∷ leads) a n =
    put_comment in_list e.sort e (slots_of in_list (d ∷ leads)) a.0
    ∙ ap (λ ss. behind_comment e ss) (only_leads in_list (d ∷ leads) a.1 (λ z. cc))

-- a datum before slots that don't begin with a comment on its line
stays_alone : {A : Type 0} (in_list : Bool) (d : Entry A) (after : List (Entry A)) (slots : List (Slot A)) →
    BeginsNot (Remark true) after → AreSlots in_list after slots → behind_datum d slots ≡ alone d slots
stays_alone in_list d after [] n h = refl
stays_alone in_list d after (s ∷ slots) n h = by_leads s.leads h.1
  where
    by_sort : (sort : Sort) (c : Entry _) (leads : List (Entry _)) → sort ≢ Remark true →
        trailed_by sort d c leads s slots ≡ alone d (s ∷ slots)
    by_sort (Remark true) c leads m = absurd (m refl)
    by_sort (Remark false) c leads m = refl
    by_sort Keyword c leads m = refl
    by_sort Dotted c leads m = refl
    by_sort Datum c leads m = refl

    by_leads : (leads : List (Entry _)) →
        after ≡ (leads ++ perhaps s.key (perhaps s.datum (perhaps s.trailing []))) ++ h.0 →
        before_leads d leads s slots ≡ alone d (s ∷ slots)
    by_leads [] q = refl
    by_leads (c ∷ leads) q = by_sort c.sort c leads (subst (λ xs. BeginsNot (Remark true) xs) q n)

-- a keyword or a dot before slots that don't begin with a datum
stays_no_key : {A : Type 0} (in_list : Bool) (d : Entry A) (after : List (Entry A)) (slots : List (Slot A)) →
    BeginsNot Datum after → AreSlots in_list after slots → behind_key d slots ≡ behind_datum d slots
stays_no_key in_list d after [] n h = refl
stays_no_key in_list d after (s ∷ slots) n h = by_parts s.leads s.key s.datum h.1
  where
    by_sort : (sort : Sort) (c : Entry _) → sort ≢ Datum → keyed_by sort d c s slots ≡ behind_datum d (s ∷ slots)
    by_sort (Remark t) c m = refl
    by_sort Keyword c m = refl
    by_sort Dotted c m = refl
    by_sort Datum c m = absurd (m refl)

    by_parts : (leads : List (Entry _)) (key datum : Option (Entry _)) →
        after ≡ (leads ++ perhaps key (perhaps datum (perhaps s.trailing []))) ++ h.0 →
        before_parts d leads key datum s slots ≡ behind_datum d (s ∷ slots)
    by_parts [] None (Some c) q = by_sort c.sort c (subst (λ xs. BeginsNot Datum xs) q n)
    by_parts [] (Some k) datum q = refl
    by_parts [] None None q = refl
    by_parts (c ∷ leads) key datum q = refl

-- a slot that stands before others isn't empty
unless_kept : {A : Type 0} (in_list : Bool) (leads : List (Entry A)) (key datum trailing : Option (Entry A))
    (slots : List (Slot A)) → MayStandTogether in_list leads key datum →
    unless_empty leads key datum trailing slots ≡ slot leads key datum trailing ∷ slots
unless_kept in_list [] None None trailing slots h = absurd (h refl)
unless_kept in_list _ _ _ trailing slots h = refl

-- a comment behind a datum on its line
trails_datum : {A : Type 0} (sort : Sort) (d c : Entry A) (leads : List (Entry A)) (s : Slot A)
    (slots : List (Slot A)) → sort ≡ Remark true →
    trailed_by sort d c leads s slots
    ≡ slot [] None (Some d) (Some c) ∷ unless_empty leads s.key s.datum s.trailing slots
trails_datum sort d c leads s slots o =
    ap (λ (x : Sort). trailed_by x d c leads s slots) o

stays_trailed : {A : Type 0} (in_list : Bool) (d c : Entry A) (after : List (Entry A)) (slots : List (Slot A)) →
    c.sort ≡ Remark true → AreSlots in_list after slots →
    behind_datum d (behind_comment c slots) ≡ slot [] None (Some d) (Some c) ∷ slots
stays_trailed in_list d c after [] o h = trails_datum c.sort d c [] (slot (c ∷ []) None None None) [] o
stays_trailed in_list d c after (s ∷ slots) o h =
    trails_datum c.sort d c s.leads (slot (c ∷ s.leads) s.key s.datum s.trailing) slots o
    ∙ ap (λ ss. slot [] None (Some d) (Some c) ∷ ss) (unless_kept in_list s.leads s.key s.datum s.trailing slots h.3)

-- a keyword or a dot doesn't take a comment as its datum
comment_no_key : {A : Type 0} (d c : Entry A) (slots : List (Slot A)) →
    behind_key d (behind_comment c slots) ≡ behind_datum d (behind_comment c slots)
comment_no_key d c [] = refl
comment_no_key d c (s ∷ slots) = refl

-- anything but a comment before slots whose first it isn't the key of
put_datum : {A : Type 0} (in_list : Bool) (sort : Sort) (d : Entry A) (slots : List (Slot A)) →
    is_comment sort ≡ false → ((in_list && may_be_key sort) ≡ true → behind_key d slots ≡ behind_datum d slots) →
    put_by in_list sort d slots ≡ behind_datum d slots
put_datum in_list (Remark t) d slots c k = absurd (false≢true (sym c))
put_datum true Keyword d slots c k = k refl
put_datum true Dotted d slots c k = k refl
put_datum _ _ d slots c k = refl

-- a datum without a key, with its comment or without one
first_datum : {A : Type 0} (in_list : Bool) (d : Entry A) (trailing : Option (Entry A)) (after : List (Entry A)) →
    is_comment d.sort ≡ false → MayTrail (Some d) trailing →
    ((in_list && may_be_key d.sort) ≡ true → trailing ≡ None → BeginsNot Datum after) →
    (trailing ≡ None → BeginsNot (Remark true) after) →
    slots_of in_list (d ∷ (perhaps trailing [] ++ after)) ≡ slot [] None (Some d) trailing ∷ slots_of in_list after
unfolding slots_of
first_datum in_list d None after c t k n =
    let cut = slots_of_cut in_list after in
    put_datum in_list d.sort d (slots_of in_list after) c
    (λ b. stays_no_key in_list d after (slots_of in_list after) (k b refl) cut)
    ∙ stays_alone in_list d after (slots_of in_list after) (n refl) cut
first_datum in_list d (Some x) after c t k n =
    let cut = slots_of_cut in_list after in
    ap (λ ss. put_by in_list d.sort d ss) (put_comment in_list x.sort x (slots_of in_list after) (ap is_comment t))
    ∙ put_datum in_list d.sort d (behind_comment x (slots_of in_list after)) c
    (λ b. comment_no_key d x (slots_of in_list after))
    ∙ stays_trailed in_list d x after (slots_of in_list after) t cut

-- a keyword or a dot before a slot that begins with its datum
takes_datum : {A : Type 0} (sort : Sort) (k d : Entry A) (trailing : Option (Entry A)) (slots : List (Slot A)) →
    may_be_key sort ≡ true → d.sort ≡ Datum →
    put_by true sort k (slot [] None (Some d) trailing ∷ slots) ≡ slot [] (Some k) (Some d) trailing ∷ slots
takes_datum Keyword k d trailing slots m o = ap (λ (x : Sort). keyed_by x k d (slot [] None (Some d) trailing) slots) o
takes_datum Dotted k d trailing slots m o = ap (λ (x : Sort). keyed_by x k d (slot [] None (Some d) trailing) slots) o
takes_datum _ k d trailing slots m o = absurd (false≢true m)

-- what stands in a slot behind its comments
first_parts : {A : Type 0} (in_list : Bool) (leads : List (Entry A)) (key : Option (Entry A)) (d : Entry A)
    (trailing : Option (Entry A)) (after : List (Entry A)) → MayStandTogether in_list leads key (Some d) →
    MayTrail (Some d) trailing → MayEnd in_list key (Some d) trailing after →
    slots_of in_list (perhaps key (d ∷ perhaps trailing []) ++ after)
    ≡ slot [] key (Some d) trailing ∷ slots_of in_list after
unfolding slots_of
first_parts in_list leads None d None after h t m = first_datum in_list d None after h t (λ b z. m.1 b) (λ z. m.0)
first_parts in_list leads None d (Some x) after h t m = first_datum in_list d (Some x) after h t (λ b z. cc) (λ z. cc)
first_parts in_list leads (Some k) d trailing after h t m =
    ap (λ ss. put_by in_list k.sort k ss) (first_datum in_list d trailing after (ap is_comment h.2) t
    (λ b. absurd (no_key in_list b)) (by_trailing trailing m))
    ∙ ap (λ (b : Bool). put_by b k.sort k (slot [] None (Some d) trailing ∷ slots_of in_list after)) h.0
    ∙ takes_datum k.sort k d trailing (slots_of in_list after) h.1 h.2
  where
    no_key : (b : Bool) → (b && may_be_key d.sort) ≡ true → ⊥
    no_key true z = false≢true (sym (ap may_be_key h.2) ∙ z)
    no_key false z = false≢true z

    by_trailing : (o : Option (Entry _)) → MayEnd in_list (Some k) (Some d) o after → o ≡ None →
        BeginsNot (Remark true) after
    by_trailing None n z = n
    by_trailing (Some x) n z = cc

-- a slot before others
first_cut : {A : Type 0} (in_list : Bool) (leads : List (Entry A)) (key datum trailing : Option (Entry A))
    (after : List (Entry A)) → AreLeads leads → MayStandTogether in_list leads key datum → MayTrail datum trailing →
    MayEnd in_list key datum trailing after →
    slots_of in_list ((leads ++ perhaps key (perhaps datum (perhaps trailing []))) ++ after)
    ≡ slot leads key datum trailing ∷ slots_of in_list after
unfolding slots_of
first_cut in_list leads key (Some d) trailing after a h t m =
    rw (append_assoc leads (perhaps key (d ∷ perhaps trailing [])) after)
    (leads_before in_list leads [] (perhaps key (d ∷ perhaps trailing []) ++ after) key (Some d) trailing
    (slots_of in_list after) a (first_parts in_list leads key d trailing after h t m)
    ∙ ap (λ xs. slot xs key (Some d) trailing ∷ slots_of in_list after) (append-nil leads))
first_cut in_list leads (Some k) None trailing after a h t m = absurd h
first_cut in_list leads None None (Some x) after a h t m = absurd t
first_cut in_list leads None None None after a h t m =
    rw (m, append-nil (leads ++ []), append-nil leads) (only_leads in_list leads a h)

-- slots of the entries are the slots computed
pub cut_slots_of : {A : Type 0} (in_list : Bool) (es : List (Entry A)) (slots : List (Slot A)) →
    AreSlots in_list es slots → slots ≡ slots_of in_list es
unfolding slots_of
cut_slots_of in_list es [] h = rw h refl
cut_slots_of in_list es (s ∷ slots) h =
    ap (λ ss. s ∷ ss) (cut_slots_of in_list h.0 slots h.6)
    ∙ sym (first_cut in_list s.leads s.key s.datum s.trailing h.0 h.2 h.3 h.4 h.5)
    ∙ ap (λ xs. slots_of in_list xs) (sym h.1)

-- entries are cut into the slots that are computed, and into no others
pub AreSlots-computed : {A : Type 0} (in_list : Bool) (es : List (Entry A)) (slots : List (Slot A)) →
    AreSlots in_list es slots ↔ (slots ≡ slots_of in_list es)
AreSlots-computed in_list es slots =
    (cut_slots_of in_list es slots, λ e. subst (λ ss. AreSlots in_list es ss) (sym e) (slots_of_cut in_list es))

-- the entry with another thing in its place, of the same sort; the same of a slot's entries
abbrev pub map_entry : {A B : Type 0} → (A → B) → Entry A → Entry B
map_entry f e = record { sort = e.sort; what = f e.what }

abbrev pub map_slot : {A B : Type 0} → (A → B) → Slot A → Slot B
map_slot f s =
    slot (map (map_entry f) s.leads) (option_map (map_entry f) s.key) (option_map (map_entry f) s.datum)
    (option_map (map_entry f) s.trailing)

comment_map : {A B : Type 0} (f : A → B) (e : Entry A) (slots : List (Slot A)) →
    behind_comment (map_entry f e) (map (map_slot f) slots) ≡ map (map_slot f) (behind_comment e slots)
comment_map f e [] = refl
comment_map f e (s ∷ slots) = refl

unless_map : {A B : Type 0} (f : A → B) (leads : List (Entry A)) (key datum trailing : Option (Entry A))
    (slots : List (Slot A)) →
    unless_empty (map (map_entry f) leads) (option_map (map_entry f) key) (option_map (map_entry f) datum)
    (option_map (map_entry f) trailing) (map (map_slot f) slots)
    ≡ map (map_slot f) (unless_empty leads key datum trailing slots)
unless_map f [] None None trailing slots = refl
unless_map f _ _ _ trailing slots = refl

datum_map : {A B : Type 0} (f : A → B) (e : Entry A) (slots : List (Slot A)) →
    behind_datum (map_entry f e) (map (map_slot f) slots) ≡ map (map_slot f) (behind_datum e slots)
datum_map f e [] = refl
datum_map f e (s ∷ slots) = by_leads s.leads
  where
    by_sort : (sort : Sort) (c : Entry _) (leads : List (Entry _)) →
        trailed_by sort (map_entry f e) (map_entry f c) (map (map_entry f) leads) (map_slot f s)
        (map (map_slot f) slots) ≡ map (map_slot f) (trailed_by sort e c leads s slots)
    by_sort (Remark true) c leads =
        ap (λ ss. slot [] None (Some (map_entry f e)) (Some (map_entry f c)) ∷ ss)
        (unless_map f leads s.key s.datum s.trailing slots)
    by_sort (Remark false) c leads = refl
    by_sort Keyword c leads = refl
    by_sort Dotted c leads = refl
    by_sort Datum c leads = refl

    by_leads : (leads : List (Entry _)) →
        before_leads (map_entry f e) (map (map_entry f) leads) (map_slot f s) (map (map_slot f) slots)
        ≡ map (map_slot f) (before_leads e leads s slots)
    by_leads [] = refl
    by_leads (c ∷ leads) = by_sort c.sort c leads

key_map : {A B : Type 0} (f : A → B) (e : Entry A) (slots : List (Slot A)) →
    behind_key (map_entry f e) (map (map_slot f) slots) ≡ map (map_slot f) (behind_key e slots)
key_map f e [] = refl
key_map f e (s ∷ slots) = by_parts s.leads s.key s.datum
  where
    by_sort : (sort : Sort) (d : Entry _) →
        keyed_by sort (map_entry f e) (map_entry f d) (map_slot f s) (map (map_slot f) slots)
        ≡ map (map_slot f) (keyed_by sort e d s slots)
    by_sort (Remark t) d = datum_map f e (s ∷ slots)
    by_sort Keyword d = datum_map f e (s ∷ slots)
    by_sort Dotted d = datum_map f e (s ∷ slots)
    by_sort Datum d = refl

    by_parts : (leads : List (Entry _)) (key datum : Option (Entry _)) →
        before_parts (map_entry f e) (map (map_entry f) leads) (option_map (map_entry f) key)
        (option_map (map_entry f) datum) (map_slot f s) (map (map_slot f) slots)
        ≡ map (map_slot f) (before_parts e leads key datum s slots)
    by_parts [] None (Some d) = by_sort d.sort d
    by_parts _ _ _ = datum_map f e (s ∷ slots)

put_map : {A B : Type 0} (f : A → B) (in_list : Bool) (sort : Sort) (e : Entry A) (slots : List (Slot A)) →
    put_by in_list sort (map_entry f e) (map (map_slot f) slots) ≡ map (map_slot f) (put_by in_list sort e slots)
put_map f in_list (Remark t) e slots = comment_map f e slots
put_map f true Keyword e slots = key_map f e slots
put_map f true Dotted e slots = key_map f e slots
put_map f _ _ e slots = datum_map f e slots

-- slots don't depend on what entries hold, but on their sorts alone
pub slots_of_map : {A B : Type 0} (f : A → B) (in_list : Bool) (es : List (Entry A)) →
    slots_of in_list (map (map_entry f) es) ≡ map (map_slot f) (slots_of in_list es)
unfolding slots_of
slots_of_map f in_list [] = refl
slots_of_map f in_list (e ∷ es) =
    ap (λ ss. put_by in_list e.sort (map_entry f e) ss) (slots_of_map f in_list es)
    ∙ put_map f in_list e.sort e (slots_of in_list es)
