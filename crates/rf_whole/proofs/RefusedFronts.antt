-- What a source is refused for near its beginning.
use Rattle.std.proofs.Common.{◌≡◌, ◌≢◌, ℕ, ◌+◌, ◌-◌, false, inl, Some, List, [], ◌∷◌, ◌++◌, length, map, slice_get, refl, sym, ap, ◌∙◌, subst, arith}
use Rattle.std.specs.List.{AllByRecursion}
use Rattle.std.specs.Str.{chars, IsUtf8}
use Rattle.rf_base_grammar.specs.Itemised.{Leads, Itemised, end_of, kinds_of}
use Rattle.rf_base_grammar.specs.Spelled.{MayFollow}
use Rattle.rf_base_grammar.specs.Token.{Token, item_of}
use Rattle.rf_base_grammar.specs.Unreadable.{NoItem, Stands, LexRefused}
use Rattle.rf_base_grammar.specs.declared.items.Item.{Item}
use Rattle.rf_base_grammar.specs.declared.kinds.Kind.{Kind}
use Rattle.rf_base_grammar.specs.declared.kinds.Kind.TheVariants.{Opener, Closer, Prefix, Skip, Dot, Atom, Str, Lang}
use Rattle.rf_base_grammar.specs.declared.refusals.LexKind.{LexKind}
use Rattle.rf_base_tree.proofs.OneTree.{start}
use Rattle.rf_base_tree.specs.Places.{IsPlace}
use Rattle.rf_base_tree.specs.Refusals.{TreeRefused}
use Rattle.rf_base_tree.specs.Trees.{Forest, Empty}
use Rattle.rf_base_tree.specs.declared.refusals.TreeKind.{TreeKind}
use Rattle.rf_joins.specs.Laws.{TellsItem}
use Rattle.rf_joins.specs.Moved.{HaveNoLanguage, MayBeFollowed}
use Rattle.rf_joins.proofs.ItemsJoin.{Leads-append, Leads-end}
use Rattle.rf_joins.proofs.Standing.{items_stand, tree_refusals_stand}
use Rattle.rf_lexer.specs.Next.{AreBefore}
use Rattle.rf_lexer.specs.Scan.{AreItems, HasItemsBehind, IsRefusedBehind, LexFaultBehind}
use Rattle.rf_lexer.specs.declared.faults.LexError.{LexError}
use Rattle.rf_lexer.specs.declared.faults.LexError.TheVariants as lexed
use Rattle.rf_lexer.proofs.Leads.{end_of-push, kinds_of-push}
use Rattle.rf_lexer.proofs.Places.{byte_len-chars}
use Rattle.rf_tree.specs.Parsing.{TreeFault}
use Rattle.rf_tree.specs.Texts.{AreTokensOf}
use Rattle.rf_tree.specs.declared.trees.TreeError.TheVariants as fault
use Rattle.rf_whole.specs.Early.{MayPrecede, EndBefore, IsRefusedFront}
use Rattle.rf_whole.specs.Faults.{lex_miss}
use Rattle.rf_whole.specs.Passages.{IsMissed}
use Rattle.rf_whole.proofs.TreesAlone.{last_behind, no_characters}

-- the last token, and those before it
record IsLast (ts : List Token) (item : Item) : Type 0 where
  front : List Token
  last : Token
  all : ts ≡ front ++ last ∷ []
  is : item_of last ≡ item

last_token : (ts : List Token) (item : Item) → slice_get (map item_of ts) (length (map item_of ts) - 1) ≡ Some item →
    IsLast ts item
last_token [] item e = cc
last_token (t ∷ []) item e = record { front = []; last = t; all = refl; is = cc }
last_token (t ∷ u ∷ ts) item e =
    let rest = last_token (u ∷ ts) item (sym (last_behind (item_of t) (item_of u) (map item_of ts)) ∙ e) in
    record { front = t ∷ rest.front; last = rest.last; all = ap (λ us. t ∷ us) rest.all; is = rest.is }

-- what may follow the last token may follow all
follows_last : (front : List Token) (last : Token) (text : List ℕ) → MayFollow last.kind last.spelling text →
    MayBeFollowed (front ++ last ∷ []) text
follows_last [] last text h = h
follows_last (t ∷ []) last text h = h
follows_last (t ∷ u ∷ front) last text h = follows_last (u ∷ front) last text h

preceding_follows : (k : Kind) (s text : List ℕ) → MayPrecede k text → MayFollow k s text
preceding_follows (Opener b) s text h = tt
preceding_follows (Closer b) s text h = tt
preceding_follows Skip s text h = tt
preceding_follows Str s text h = tt
preceding_follows Prefix s text h = λ unquote at. h at
preceding_follows Atom s text h = h
preceding_follows Dot s text h = h
preceding_follows _ s text h = absurd h

-- behind such an item no language line may stand
preceding_known : (k : Kind) (kinds : List Kind) (text : List ℕ) → MayPrecede k text →
    AreBefore (k ∷ kinds) (record { none = false; language = false })
preceding_known (Opener b) kinds text h = (refl, refl)
preceding_known (Closer b) kinds text h = (refl, refl)
preceding_known Skip kinds text h = (refl, refl)
preceding_known Str kinds text h = (refl, refl)
preceding_known Prefix kinds text h = (refl, refl)
preceding_known Atom kinds text h = (refl, refl)
preceding_known Dot kinds text h = (refl, refl)
preceding_known _ kinds text h = absurd h

no_language_kept : (ts : List Token) → AllByRecursion (λ (item : Item). item.kind ≢ Lang) (map item_of ts) →
    HaveNoLanguage ts
no_language_kept [] h = tt
no_language_kept (t ∷ ts) h = (h.0, no_language_kept ts h.1)

-- the items are the first, whatever stands behind the front
pub front_refused : (front rest : List ℕ) (items : List Item) (kind : TreeKind) (offset : ℕ) → IsUtf8 front →
    AreItems (chars front) items → EndBefore items (length front) (chars rest) →
    AllByRecursion (λ (item : Item). item.kind ≢ Lang) items → TellsItem kind →
    ((ts : List Token) (done : Forest) → AreTokensOf (chars front) ts → items ≡ map item_of ts → IsPlace ts 0 [] done →
    TreeFault ts (fault.Refused kind offset)) → IsRefusedFront (chars front) (chars rest) kind offset
front_refused front rest items kind offset utf8 are ends clear tells refused =
    let ts = are.0 in
    let read = are.1 in
    let at = last_token ts ends.0
    (subst (λ (xs : List Item). slice_get xs (length xs - 1) ≡ Some ends.0) are.2 ends.1) in
    let precedes : MayPrecede at.last.kind (chars rest) =
    subst (λ (i : Item). MayPrecede i.kind (chars rest)) (sym at.is) ends.3 in
    let end : end_of 0 ts ≡ length front =
    ap (λ us. end_of 0 us) at.all ∙ end_of-push 0 at.front at.last ∙ ap (λ (i : Item). i.end) at.is ∙ ends.2 in
    let none : read.0 ≡ [] =
    no_characters read.0 (omega (arith, Leads-end [] 0 (chars front) ts read.0 read.1, end, byte_len-chars front utf8)) in
    let kinds : kinds_of [] ts ≡ at.last.kind ∷ kinds_of [] at.front =
    ap (λ us. kinds_of [] us) at.all ∙ kinds_of-push [] at.front at.last in
    record {
      tokens = ts;
      leads = subst (λ (xs : List ℕ). Leads [] 0 (chars front) ts xs) none read.1;
      clear = no_language_kept ts
          (subst (λ (xs : List Item). AllByRecursion (λ (item : Item). item.kind ≢ Lang) xs) are.2 clear);
      follows =
          subst (λ (us : List Token). MayBeFollowed us (chars rest)) (sym at.all)
          (follows_last at.front at.last (chars rest)
          (preceding_follows at.last.kind at.last.spelling (chars rest) precedes));
      before =
          subst (λ (ks : List Kind). AreBefore ks (record { none = false; language = false })) (sym kinds)
          (preceding_known at.last.kind (kinds_of [] at.front) (chars rest) precedes);
      tells = tells;
      refused = refused ts Empty (ts, read, inl refl) are.2 (start ts);
    }

-- the kinds of items, and of others behind them
kinds_behind : (before : List Kind) (ts us : List Token) → kinds_of (kinds_of before ts) us ≡ kinds_of before (ts ++ us)
kinds_behind before [] us = refl
kinds_behind before (t ∷ ts) us = kinds_behind (t.kind ∷ before) ts us

-- the source's first items, and where they end
module _ (src front rest : List ℕ) (utf8 : IsUtf8 src) (behind : IsUtf8 rest)
    (whole : chars src ≡ chars front ++ chars rest) (kind : TreeKind) (offset : ℕ)
    (h : IsRefusedFront (chars front) (chars rest) kind offset) where
  first_lead : Leads [] 0 (chars src) h.tokens (chars rest)
  first_lead =
      subst (λ (xs : List ℕ). Leads [] 0 xs h.tokens (chars rest)) (sym whole)
      (items_stand (chars front) (chars rest) h.tokens h.leads h.clear h.follows)

  ends_at : length src - length rest ≡ end_of 0 h.tokens
  ends_at =
      omega (
        arith,
        Leads-end [] 0 (chars src) h.tokens (chars rest) first_lead,
        byte_len-chars src utf8,
        byte_len-chars rest behind,
      )

  -- others behind them are the source's
  all_lead : (more : List Token) (last : List ℕ) →
      Leads (kinds_of [] h.tokens) (length src - length rest) (chars rest) more last →
      Leads [] 0 (chars src) (h.tokens ++ more) last
  all_lead more last leads =
      Leads-append [] 0 (chars src) h.tokens more (chars rest) last first_lead
      (subst (λ (n : ℕ). Leads (kinds_of [] h.tokens) n (chars rest) more last) ends_at leads)

  -- where they have others behind them to the source's end, the source is refused as its front is
  pub source_refused : HasItemsBehind (kinds_of [] h.tokens) (length src - length rest) (chars rest) →
      (ts : List Token) × Itemised (chars src) ts × TreeRefused ts kind offset
  source_refused more = (
    h.tokens ++ more.tokens,
    (more.rest, all_lead more.tokens more.rest more.leads, more.ends),
    tree_refusals_stand h.tokens more.tokens kind offset h.tells h.refused,
  )

  -- and where none can be read behind them, as that is
  source_unreadable : (k : LexKind) (byte : ℕ) →
      IsRefusedBehind (kinds_of [] h.tokens) (length src - length rest) (chars rest) k byte →
      LexRefused (chars src) k byte
  source_unreadable k byte r =
      let all = h.tokens ++ r.tokens in
      let leads = all_lead r.tokens r.rest r.leads in
      let kinds : kinds_of (kinds_of [] h.tokens) r.tokens ≡ kinds_of [] all = kinds_behind [] h.tokens r.tokens in
      record {
        items = all;
        rest = r.rest;
        leads = leads;
        gap = r.refused.gap;
        place = r.refused.place;
        rest_is = r.refused.whole;
        white = r.refused.white;
        begins = r.refused.begins;
        none = subst (λ (ks : List Kind). NoItem ks r.refused.place) kinds r.refused.none;
        clean = r.refused.clean;
        stands = subst (λ (ks : List Kind). Stands ks k r.refused.clean r.refused.place) kinds r.refused.stands;
        offset_is =
            omega (
              arith,
              r.byte_is,
              r.refused.offset_is,
              Leads-end [] 0 (chars src) all r.rest leads,
              Leads-end (kinds_of [] h.tokens) (length src - length rest) (chars rest) r.tokens r.rest r.leads,
              byte_len-chars src utf8,
              byte_len-chars rest behind,
              ends_at,
              Leads-end [] 0 (chars src) h.tokens (chars rest) first_lead,
            );
      }

  pub source_missed : (fault : LexError) →
      LexFaultBehind (kinds_of [] h.tokens) (length src - length rest) (chars rest) fault →
      IsMissed (chars src) (lex_miss fault)
  source_missed (lexed.Refused k byte) r = source_unreadable k byte r
  source_missed (lexed.Memory e) r = tt
