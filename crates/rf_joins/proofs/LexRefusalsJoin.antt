-- A text behind another one is refused as it is by itself.
use Rattle.std.proofs.Common.{◌≡◌, ◌≢◌, ℕ, ◌+◌, inl, inr, List, [], ◌∷◌, ◌++◌, refl, sym, ap, ◌∙◌, subst, arith}
use Rattle.std.specs.Prelude.{codes}
use Rattle.std.proofs.lemmas.List.{append_assoc}
use Rattle.rf_base_grammar.specs.Characters.{byte_len}
use Rattle.rf_base_grammar.specs.Itemised.{Leads, end_of, kinds_of}
use Rattle.rf_base_grammar.specs.Spelled.{Spelled, BeginsItem}
use Rattle.rf_base_grammar.specs.Token.{Token}
use Rattle.rf_base_grammar.specs.Unreadable.{NoItem, IsReaderOfOther, IsStrayInLanguage, IsStrayBehind, Stands}
use Rattle.rf_base_grammar.specs.declared.kinds.Kind.{Kind}
use Rattle.rf_base_grammar.specs.declared.kinds.Kind.TheVariants.{Lang}
use Rattle.rf_base_grammar.specs.declared.refusals.LexKind.{LexKind}
use Rattle.rf_base_grammar.specs.declared.refusals.LexKind.TheVariants.{BadHash, OpenString, OpenComment, OpenBar, OpenHere, StrayLineEnd, LanguageLine, LanguageReader}
use Rattle.rf_base_grammar.proofs.Texts.{byte_len-append}
use Rattle.rf_joins.specs.Laws.{LexRefusalsJoin}
use Rattle.rf_joins.specs.Moved.{joined, HaveNoLanguage, HoldsNoLanguage}
use Rattle.rf_joins.proofs.ItemsJoin.{Leads-end, items_joined}

-- where no language line begins anywhere, none begins behind a front, none is an item, and none is told
none_behind : (front text : List ℕ) → HoldsNoLanguage (front ++ text) → HoldsNoLanguage text
none_behind front text clear =
    λ more behind e. clear (front ++ more) behind
    (ap (λ xs. front ++ xs) e ∙ sym (append_assoc front more (codes "#lang" ++ behind)))

not_lang : (text : List ℕ) (k : Kind) (s behind : List ℕ) → HoldsNoLanguage text → text ≡ s ++ behind → Spelled k s →
    k ≢ Lang
not_lang text k s behind clear e h =
    λ same. let line = subst (λ j. Spelled j s) same h in
    clear [] (32 ∷ ((line.0 ++ line.1) ++ behind)) (e ∙ ap (λ xs. xs ++ behind) line.2.text_is)

not_told : (text rest : List ℕ) → HoldsNoLanguage text → text ≡ codes "#lang " ++ rest → ⊥
not_told text rest clear e = clear [] (32 ∷ rest) e

no_reader : (before : List Kind) (text : List ℕ) → HoldsNoLanguage text → IsReaderOfOther before text → ⊥
no_reader before text clear h = not_told text (h.0 ++ h.1) clear h.2.1

no_stray : (before : List Kind) (clean text : List ℕ) → HoldsNoLanguage text → IsStrayInLanguage before clean text → ⊥
no_stray before clean text clear h = not_told text (h.0 ++ h.1) clear h.4.1

pub items_no_language : (before : List Kind) (offset : ℕ) (text : List ℕ) (ts : List Token) (rest : List ℕ) →
    HoldsNoLanguage text → Leads before offset text ts rest → HaveNoLanguage ts × HoldsNoLanguage rest
items_no_language before offset text [] rest clear h = (tt, subst HoldsNoLanguage h clear)
items_no_language before offset text (t ∷ ts) rest clear h =
    let begins = h.1 in
    let here : HoldsNoLanguage begins.place =
    none_behind begins.gap begins.place (subst HoldsNoLanguage begins.text_is clear) in
    let behind : HoldsNoLanguage h.0 = none_behind t.spelling h.0 (subst HoldsNoLanguage begins.item.text_is here) in
    let more = items_no_language (t.kind ∷ before) (t.start + byte_len t.spelling) h.0 ts rest behind h.2 in
    ((not_lang begins.place t.kind t.spelling h.0 here begins.item.text_is begins.item.spelled, more.0), more.1)

-- so what stands there doesn't rest on the items before
stands_elsewhere : (before others : List Kind) (text : List ℕ) (k : Kind) (s behind : List ℕ) → k ≢ Lang →
    BeginsItem before text k s behind → BeginsItem others text k s behind
stands_elsewhere before others text Lang s behind n h = absurd (n refl)
stands_elsewhere before others text _ s behind n h =
    record { text_is = h.text_is; spelled = h.spelled; follows = h.follows; stands = tt }

no_item : (before others : List Kind) (text : List ℕ) → HoldsNoLanguage text → NoItem before text → NoItem others text
no_item before others text clear none k s behind h =
    none k s behind
    (stands_elsewhere others before text k s behind (not_lang text k s behind clear h.text_is h.spelled) h)

stray_elsewhere : (before others : List Kind) (clean text : List ℕ) → HoldsNoLanguage text →
    IsStrayBehind before clean text → IsStrayBehind others clean text
stray_elsewhere before others clean text clear (inl h) = inl h
stray_elsewhere before others clean text clear (inr (inl h)) = inr (inl h)
stray_elsewhere before others clean text clear (inr (inr h)) = absurd (no_stray before clean text clear h)

refused_elsewhere : (before others : List Kind) (k : LexKind) (clean text : List ℕ) → HoldsNoLanguage text →
    Stands before k clean text → Stands others k clean text
refused_elsewhere before others BadHash clean text clear h = (
  h.0,
  (
    h.1.0,
    h.1.1,
    h.1.2,
    h.1.3,
    h.1.4,
    λ part stray. h.1.5 part (stray_elsewhere others before part text clear stray),
    no_reader others text clear,
    λ bad. clear [] bad.0.0 bad.0.1,
  ),
)
refused_elsewhere before others OpenString clean text clear h = h
refused_elsewhere before others OpenComment clean text clear h = h
refused_elsewhere before others OpenBar clean text clear h = h
refused_elsewhere before others OpenHere clean text clear h = h
refused_elsewhere before others StrayLineEnd clean text clear h = stray_elsewhere before others clean text clear h
refused_elsewhere before others LanguageLine clean text clear h = absurd (clear [] h.1.0.0 h.1.0.1)
refused_elsewhere before others LanguageReader clean text clear h = absurd (no_reader before text clear h.1)

pub lex_refusals_joined : LexRefusalsJoin
lex_refusals_joined a b us kind offset some h l clear r =
    let free = items_no_language [] 0 b r.items r.rest clear r.leads in
    let here : HoldsNoLanguage r.place = none_behind r.gap r.place (subst HoldsNoLanguage r.rest_is free.1) in
    let all : List Token = joined (byte_len a) us r.items in
    let leads : Leads [] 0 (a ++ b) all r.rest = items_joined a b r.rest us r.items some h l r.leads free.0 in
    let end : end_of 0 all ≡ byte_len a + end_of 0 r.items =
    omega (
      arith,
      Leads-end [] 0 (a ++ b) all r.rest leads,
      Leads-end [] 0 b r.items r.rest r.leads,
      byte_len-append a b,
    ) in
    record {
      items = all;
      rest = r.rest;
      leads = leads;
      gap = r.gap;
      place = r.place;
      rest_is = r.rest_is;
      white = r.white;
      begins = r.begins;
      none = no_item (kinds_of [] r.items) (kinds_of [] all) r.place here r.none;
      clean = r.clean;
      stands = refused_elsewhere (kinds_of [] r.items) (kinds_of [] all) kind r.clean r.place here r.stands;
      offset_is = omega (arith, end, r.offset_is);
    }
