-- A datum completes what it completes.
use Rattle.std.proofs.Common.{◌≡◌, ◌≢◌, ℕ, ◌<◌, Option, None, Some, List, [], ◌∷◌, ◌++◌, length, refl, sym, ap, ◌∙◌, subst}
use Rattle.std.specs.Prelude.{MatchOption}
use Rattle.std.proofs.lemmas.List.{same_from_push}
use Rattle.rf_base_grammar.specs.Token.{Token}
use Rattle.rf_base_grammar.specs.declared.kinds.Kind.TheVariants.{Opener, Prefix, Skip}
use Rattle.rf_base_tree.specs.Trees.{Tree, Prefixed, DatumComment, Listed, Forest}
use Rattle.rf_base_tree.specs.Dots.{Mark, OfDatum, marked}
use Rattle.rf_base_tree.specs.Formed.{IsDatum}
use Rattle.rf_base_tree.specs.Places.{Frame}
use Rattle.rf_base_tree.specs.Moves.{Move, Goes, Halts, push, behind_datum}
use Rattle.rf_base_tree.proofs.OneTree.{kind_within}
use Rattle.rf_tree.specs.Nodes.{UnfoldsTo, UnfoldTo, AreSound}
use Rattle.rf_tree.specs.Levels.{IsLevel, Gains}
use Rattle.rf_tree.specs.Parsing.{frame_of, IsOpened, AreBegun, StandsAt, Follows, IsTop, IsNotTop, IsAsBefore, Keeps, Pops, Leaves, Makes, Stands, Carries, WrapsPrefix, CommentsOut}
use Rattle.rf_tree.specs.declared.nodes.At.{At}
use Rattle.rf_tree.specs.Told.{Node}
use Rattle.rf_tree.specs.Told as node
use Rattle.rf_tree.specs.declared.levels.Level.{Level}
use Rattle.rf_tree.specs.declared.parser.Opened.{Opened}
use Rattle.rf_tree.specs.declared.parser.Opened.TheVariants as opened
use Rattle.rf_tree.specs.declared.parser.Begun.{Begun}
use Rattle.rf_tree.specs.declared.parser.Parser.{Parser}
use Rattle.rf_tree.proofs.Unfolding.{AreSound-push, IsLevel-more, IsLevel-push}
use Rattle.rf_tree.proofs.Steps.{AreBegun-more, has_last, stands_kept, stands_push, kept_unfolds, some_not_none, Makes-list, Makes-prefixed, Makes-skipped}

-- what was begun has its first item
pub what_within : (ts : List Token) (what : Opened) (n : ℕ) → IsOpened ts what n → n < length ts
what_within ts (opened.List bracket hashed) n h = kind_within ts n (Opener bracket) h.0
what_within ts opened.Prefix n h = kind_within ts n Prefix h
what_within ts opened.Skip n h = kind_within ts n Skip h

not_last : (what : Opened) (begun outer : List Begun) (last : Begun) → IsNotTop what begun → begun ≡ outer ++ last ∷ [] → last.opened ≡ what → ⊥
not_last what begun outer last h e w = by_top h.0 h.1 h.2
  where
    by_top : (top : Option Opened) → IsTop begun top → top ≢ Some what → ⊥
    by_top None t n = some_not_none outer last (sym e ∙ t)
    by_top (Some o) t n =
        let same = same_from_push t.0 outer t.1 last (sym t.2 ∙ e) in
        n (ap (λ (x : Opened). Some x) (sym t.3 ∙ ap (λ (l : Begun). l.opened) same.1 ∙ w))

-- where no prefix and no skip is on top, a datum stands on this level
behind_plain : (ts : List Token) (nodes : List Node) (begun : List Begun) (frames : List Frame) (here : Forest) (t : Tree) → AreBegun ts nodes begun frames → IsNotTop opened.Prefix begun → IsNotTop opened.Skip begun → behind_datum frames here t ≡ Goes frames (push here t)
behind_plain ts nodes begun [] here t h p s = refl
behind_plain ts nodes begun (f ∷ frames) here t h p s =
    subst (λ (g : Frame). behind_datum (g ∷ frames) here t ≡ Goes (g ∷ frames) (push here t)) (sym h.4) (by_what h.1.opened refl)
  where
    by_what : (what : Opened) → h.1.opened ≡ what → behind_datum (frame_of what h.1.item h.2 ∷ frames) here t ≡ Goes (frame_of what h.1.item h.2 ∷ frames) (push here t)
    by_what (opened.List bracket hashed) e = refl
    by_what opened.Prefix e = absurd (not_last opened.Prefix begun h.0 h.1 p h.3 e)
    by_what opened.Skip e = absurd (not_last opened.Skip begun h.0 h.1 s h.3 e)

-- the datum at hand stands on this level
pub end_plain : (ts : List Token) (a m q : Parser) (at : At) (move : Move) → Carries ts a at move → IsNotTop opened.Prefix a.begun.items → IsNotTop opened.Skip a.begun.items → IsAsBefore a m → Gains at (OfDatum ∷ []) m.here q.here → q.nodes ≡ m.nodes → q.begun.items ≡ m.begun.items → Follows ts q move
end_plain ts a m q at move k p s same gains nodes begun =
    let gained : Gains at (marked k.tree []) a.here q.here =
    subst (λ (marks : List Mark). Gains at marks a.here q.here) (sym k.datum) (subst (λ (l : Level). Gains at (OfDatum ∷ []) l q.here) same.here gains) in
    let there = stands_push ts a q k.frames k.here at k.tree k.stands k.unfolds gained (nodes ∙ same.nodes) (begun ∙ same.begun) in
    let goes = behind_plain ts a.nodes a.begun.items k.frames k.here k.tree k.stands.begun_are p s in
    subst (λ (mv : Move). Follows ts q mv) k.leads (subst (λ (mv : Move). Follows ts q mv) (sym goes) there)

-- a node is behind others, and these are behind what was there
pub record Behind (ts : List Token) (a q : Parser) (added : Node) (outer : List Begun) : Type 0 where
  pub nodes : q.nodes ≡ a.nodes ++ added ∷ []
  pub begun : q.begun.items ≡ outer

outer_behind : (ts : List Token) (a q : Parser) (added : Node) (outer : List Begun) (frames : List Frame) → AreBegun ts a.nodes outer frames → Behind ts a q added outer → AreBegun ts q.nodes q.begun.items frames
outer_behind ts a q added outer frames h b =
    subst (λ (xs : List Node). AreBegun ts xs q.begun.items frames) (sym b.nodes)
    (subst (λ (bs : List Begun). AreBegun ts (a.nodes ++ added ∷ []) bs frames) (sym b.begun) (AreBegun-more ts a.nodes added outer frames h))

-- the lead is what stands here
lead_unfolds : (ts : List Token) (a m : Parser) (lead : List At) (here : Forest) → m.here ≡ a.here → lead ≡ m.here.nodes.items → IsLevel ts a.nodes a.here here → UnfoldTo ts a.nodes lead here
lead_unfolds ts a m lead here same e h =
    subst (λ (ats : List At). UnfoldTo ts a.nodes ats here) (sym (e ∙ ap (λ (l : Level). l.nodes.items) same)) h.0

-- what stands behind a prefix or a skip, and leads to a move
in_prefix : (item : ℕ) (before here : Forest) (frames : List Frame) (t : Tree) (what : Opened) → what ≡ opened.Prefix → behind_datum (frame_of what item before ∷ frames) here t ≡ behind_datum frames before (Prefixed item here t)
in_prefix item before here frames t what e =
    subst (λ (w : Opened). behind_datum (frame_of w item before ∷ frames) here t ≡ behind_datum frames before (Prefixed item here t)) (sym e) refl

in_skip : (item : ℕ) (before here : Forest) (frames : List Frame) (t : Tree) (what : Opened) → what ≡ opened.Skip → behind_datum (frame_of what item before ∷ frames) here t ≡ Goes frames (push before (DatumComment item here t))
in_skip item before here frames t what e =
    subst (λ (w : Opened). behind_datum (frame_of w item before ∷ frames) here t ≡ Goes frames (push before (DatumComment item here t))) (sym e) refl

-- the datum at hand completes the prefix on top
pub Carries-prefix : (ts : List Token) (a m q : Parser) (prefix : Begun) (inner at : At) (move : Move) → Carries ts a inner move → prefix.opened ≡ opened.Prefix → Pops prefix a m → at.0 ≡ length m.nodes → WrapsPrefix prefix inner m q → Carries ts q at move
Carries-prefix ts a m q prefix inner at move k e pops place wraps =
    let nodes = a.nodes in
    let added = node.Prefixed prefix.item wraps.lead inner in
    let v = has_last ts nodes a.begun.items m.begun.items prefix k.frames k.stands.begun_are pops.begun in
    let lead = lead_unfolds ts a m wraps.lead k.here pops.here wraps.lead_is k.stands.here_is in
    let makes = Makes-prefixed ts nodes prefix.item wraps.lead inner k.here k.tree lead k.unfolds (what_within ts prefix.opened prefix.item v.what_is) in
    let more : q.nodes ≡ nodes ++ added ∷ [] = wraps.nodes ∙ ap (λ (xs : List Node). xs ++ added ∷ []) pops.nodes in
    let here_at : at.0 ≡ length nodes = place ∙ ap (λ (xs : List Node). length xs) pops.nodes in
    record {
      frames = v.outside;
      here = v.before;
      tree = Prefixed prefix.item k.here k.tree;
      stands = record {
        begun_are = outer_behind ts a q added m.begun.items v.outside v.outer_are (record { nodes = more; begun = wraps.begun });
        here_is =
            subst (λ (xs : List Node). IsLevel ts xs q.here v.before) (sym more)
            (subst (λ (l : Level). IsLevel ts (nodes ++ added ∷ []) l v.before) (sym wraps.here) (IsLevel-more ts nodes added prefix.before v.before v.before_is));
        sound = subst (λ (xs : List Node). AreSound ts xs) (sym more) (AreSound-push ts nodes added (Prefixed prefix.item k.here k.tree) k.stands.sound makes);
      };
      unfolds =
          subst (λ (n : ℕ). UnfoldsTo ts q.nodes n (Prefixed prefix.item k.here k.tree)) (sym here_at)
          (subst (λ (xs : List Node). UnfoldsTo ts xs (length nodes) (Prefixed prefix.item k.here k.tree)) (sym more) makes.unfolds);
      datum = refl;
      leads =
          sym (in_prefix prefix.item v.before k.here v.outside k.tree prefix.opened e)
          ∙ ap (λ (fs : List Frame). behind_datum fs k.here k.tree) (sym v.frames_are)
          ∙ k.leads;
    }

-- the datum at hand completes the skip on top
pub end_skip : (ts : List Token) (a m q : Parser) (skip : Begun) (inner : At) (move : Move) → Carries ts a inner move → skip.opened ≡ opened.Skip → Pops skip a m → CommentsOut skip inner m q → Follows ts q move
end_skip ts a m q skip inner move k e pops out =
    let nodes = a.nodes in
    let added = node.DatumComment skip.item out.lead inner in
    let tree = DatumComment skip.item k.here k.tree in
    let v = has_last ts nodes a.begun.items m.begun.items skip k.frames k.stands.begun_are pops.begun in
    let lead = lead_unfolds ts a m out.lead k.here pops.here out.lead_is k.stands.here_is in
    let makes = Makes-skipped ts nodes skip.item out.lead inner k.here k.tree lead k.unfolds (what_within ts skip.opened skip.item v.what_is) in
    let more : q.nodes ≡ nodes ++ added ∷ [] = out.nodes ∙ ap (λ (xs : List Node). xs ++ added ∷ []) pops.nodes in
    let here_at : out.here.0.0 ≡ length nodes = out.here.1 ∙ ap (λ (xs : List Node). length xs) pops.nodes in
    let unfolds : UnfoldsTo ts (nodes ++ added ∷ []) out.here.0.0 tree =
    subst (λ (n : ℕ). UnfoldsTo ts (nodes ++ added ∷ []) n tree) (sym here_at) makes.unfolds in
    let there : StandsAt ts q v.outside (push v.before tree) = record {
      begun_are = outer_behind ts a q added m.begun.items v.outside v.outer_are (record { nodes = more; begun = out.begun });
      here_is =
          subst (λ (xs : List Node). IsLevel ts xs q.here (push v.before tree)) (sym more)
          (IsLevel-push ts (nodes ++ added ∷ []) out.here.0 skip.before q.here v.before tree (IsLevel-more ts nodes added skip.before v.before v.before_is) out.here.2 unfolds);
      sound = subst (λ (xs : List Node). AreSound ts xs) (sym more) (AreSound-push ts nodes added tree k.stands.sound makes);
    } in
    let goes = in_skip skip.item v.before k.here v.outside k.tree skip.opened e in
    let same = ap (λ (fs : List Frame). behind_datum fs k.here k.tree) (sym v.frames_are) in
    subst (λ (mv : Move). Follows ts q mv) (sym goes ∙ same ∙ k.leads) there

-- nothing was changed
stands_same : (ts : List Token) (a m : Parser) (frames : List Frame) (here : Forest) → IsAsBefore a m → StandsAt ts a frames here → StandsAt ts m frames here
stands_same ts a m frames here same stands =
    record {
      begun_are =
          subst (λ (xs : List Node). AreBegun ts xs m.begun.items frames) (sym same.nodes)
          (subst (λ (bs : List Begun). AreBegun ts a.nodes bs frames) (sym same.begun) stands.begun_are);
      here_is =
          subst (λ (xs : List Node). IsLevel ts xs m.here here) (sym same.nodes)
          (subst (λ (l : Level). IsLevel ts a.nodes l here) (sym same.here) stands.here_is);
      sound = subst (λ (xs : List Node). AreSound ts xs) (sym same.nodes) stands.sound;
    }

pub follows_same : (ts : List Token) (a m : Parser) (move : Move) → IsAsBefore a m → Follows ts a move → Follows ts m move
follows_same ts a m (Goes frames here) same h = stands_same ts a m frames here same h
follows_same ts a m (Halts why item) same h = h

pub Carries-same : (ts : List Token) (a m : Parser) (at : At) (move : Move) → IsAsBefore a m → Carries ts a at move → Carries ts m at move
Carries-same ts a m at move same k =
    record {
      frames = k.frames;
      here = k.here;
      tree = k.tree;
      stands = stands_same ts a m k.frames k.here same k.stands;
      unfolds = subst (λ (xs : List Node). UnfoldsTo ts xs at.0 k.tree) (sym same.nodes) k.unfolds;
      datum = k.datum;
      leads = k.leads;
    }

-- a datum whose node was just kept
pub Carries-kept : (ts : List Token) (p q : Parser) (frames : List Frame) (here : Forest) (added : Node) (t : Tree) (at : At) → StandsAt ts p frames here → Keeps added p q → Makes ts p.nodes added t → IsDatum t → at.0 ≡ length p.nodes → Carries ts q at (behind_datum frames here t)
Carries-kept ts p q frames here added t at stands keeps makes datum e =
    record {
      frames = frames;
      here = here;
      tree = t;
      stands = stands_kept ts p q frames here added t stands keeps makes;
      unfolds = kept_unfolds ts p q added t at keeps makes e;
      datum = datum;
      leads = refl;
    }

-- a list that was begun last and was taken away ends with what stands here
pub list_ends : (ts : List Token) (a m q : Parser) (list : Begun) (entries : List At) (n : ℕ) (frames : List Frame) (before here : Forest) → StandsAt ts a frames here → IsLevel ts a.nodes list.before before → list.item < length ts → n < length ts → entries ≡ a.here.nodes.items → Leaves list.before a m → Stands (node.ListNode list.item entries n) m q → Follows ts q (behind_datum frames before (Listed list.item here n))
list_ends ts a m q list entries n frames before here stands level o c e leaves h =
    let there : StandsAt ts m frames before = record {
      begun_are =
          subst (λ (xs : List Node). AreBegun ts xs m.begun.items frames) (sym leaves.nodes)
          (subst (λ (bs : List Begun). AreBegun ts a.nodes bs frames) (sym leaves.begun) stands.begun_are);
      here_is =
          subst (λ (xs : List Node). IsLevel ts xs m.here before) (sym leaves.nodes)
          (subst (λ (l : Level). IsLevel ts a.nodes l before) (sym leaves.here) level);
      sound = subst (λ (xs : List Node). AreSound ts xs) (sym leaves.nodes) stands.sound;
    } in
    let unfold_here : UnfoldTo ts a.nodes entries here =
    subst (λ (ats : List At). UnfoldTo ts a.nodes ats here) (sym e) stands.here_is.0 in
    h ts frames before (Listed list.item here n) there
    (subst (λ (xs : List Node). Makes ts xs (node.ListNode list.item entries n) (Listed list.item here n)) (sym leaves.nodes)
    (Makes-list ts a.nodes list.item n entries here unfold_here o c))
    refl

pub match_none : {A : Type 0} (o : Option A) (P : Type 0) (Q : A → Type 0) → MatchOption o P Q → ((x : A) → o ≡ Some x → ⊥) → P
match_none None P Q h n = h
match_none (Some x) P Q h n = absurd (n x refl)
