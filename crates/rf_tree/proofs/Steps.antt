-- The parser makes the moves of the plain reader.
use Rattle.std.proofs.Common.{◌≡◌, ℕ, ◌≤◌, ◌<◌, Bool, true, cond, Some, List, [], ◌∷◌, ◌++◌, length, refl, sym, ap, ◌∙◌, subst, arith}
use Rattle.std.proofs.lemmas.Bool.{le-ltb}
use Rattle.std.proofs.lemmas.List.{same_from_push, length_push}
use Rattle.rf_base_grammar.specs.Reader.{begins}
use Rattle.rf_base_grammar.specs.Token.{Token}
use Rattle.rf_base_grammar.specs.declared.kinds.Kind.TheVariants.{Dot}
use Rattle.rf_base_tree.specs.Trees.{Tree, Leaf, Point, Comment, Prefixed, DatumComment, Listed, Forest, Empty, kind_at, start_at}
use Rattle.rf_base_tree.specs.Dots.{marked, marks_of}
use Rattle.rf_base_tree.specs.Dotting.{Dotting, takes_datum, takes_dot, ends_in_dot}
use Rattle.rf_base_tree.specs.Formed.{KindPasses, is_whole, depth_limit}
use Rattle.rf_base_tree.specs.Places.{Frame}
use Rattle.rf_base_tree.specs.Moves.{Move, Goes, Halts, push, dots_so_far, unless_bad_dot, begin}
use Rattle.rf_base_tree.specs.declared.refusals.TreeKind.TheVariants.{TooDeep}
use Rattle.rf_base_tree.proofs.TreeReading.{begin_goes}
use Rattle.rf_tree.specs.Nodes.{UnfoldsTo, UnfoldTo, AreSound}
use Rattle.rf_tree.specs.Dots.{dotting_of}
use Rattle.rf_tree.specs.Levels.{IsLevel, Gains}
use Rattle.rf_tree.specs.Parsing.{frame_of, IsOpened, IsOpenedAt, AreBegun, StandsAt, Follows, IsHalt, HaltsSo, Keeps, Begins, TooDeepHere, Makes}
use Rattle.rf_tree.specs.declared.nodes.At.{At}
use Rattle.rf_tree.specs.Told.{Node}
use Rattle.rf_tree.specs.Told as node
use Rattle.rf_tree.specs.declared.trees.TreeError.{TreeError}
use Rattle.rf_tree.specs.declared.trees.TreeError.TheVariants as fault
use Rattle.rf_tree.specs.declared.levels.Level.{Level}
use Rattle.rf_tree.specs.declared.parser.Opened.{Opened}
use Rattle.rf_tree.specs.declared.parser.Begun.{Begun}
use Rattle.rf_tree.specs.declared.parser.Parser.{Parser}
use Rattle.rf_tree.proofs.Unfolding.{UnfoldsTo-more, UnfoldsTo-below, UnfoldTo-more, UnfoldTo-below, UnfoldTo-none, slice_get_last, all_push, AreSound-push, IsLevel-more, IsLevel-push}

pub AreBegun-more : (ts : List Token) (nodes : List Node) (added : Node) (begun : List Begun) (frames : List Frame) → AreBegun ts nodes begun frames → AreBegun ts (nodes ++ added ∷ []) begun frames
AreBegun-more ts nodes added begun [] h = h
AreBegun-more ts nodes added begun (f ∷ frames) h =
    (h.0, h.1, h.2, h.3, h.4, IsLevel-more ts nodes added h.1.before h.2 h.5, h.6, h.7, AreBegun-more ts nodes added h.0 frames h.8)

pub AreBegun-length : (ts : List Token) (nodes : List Node) (begun : List Begun) (frames : List Frame) → AreBegun ts nodes begun frames → length begun ≡ length frames
AreBegun-length ts nodes begun [] h = ap length h
AreBegun-length ts nodes begun (f ∷ frames) h =
    ap length h.3 ∙ length_push h.0 h.1 ∙ omega (arith, AreBegun-length ts nodes h.0 frames h.8)

-- where something was begun last, the frames are its frame and those of what was begun before it
pub record HasLast (ts : List Token) (nodes : List Node) (outer : List Begun) (last : Begun) (frames : List Frame) : Type 0 where
  pub before : Forest
  pub outside : List Frame
  pub frames_are : frames ≡ frame_of last.opened last.item before ∷ outside
  pub before_is : IsLevel ts nodes last.before before
  pub what_is : IsOpened ts last.opened last.item
  pub start_is : last.start ≡ start_at ts last.item
  pub outer_are : AreBegun ts nodes outer outside

-- a list that ends with something isn't empty
pub some_not_none : {A : Type 0} (xs : List A) (x : A) → xs ++ x ∷ [] ≡ [] → ⊥
some_not_none [] x e = cc
some_not_none (y ∷ xs) x e = cc

pub has_last : (ts : List Token) (nodes : List Node) (begun outer : List Begun) (last : Begun) (frames : List Frame) → AreBegun ts nodes begun frames → begun ≡ outer ++ last ∷ [] → HasLast ts nodes outer last frames
has_last ts nodes begun outer last [] h e = absurd (some_not_none outer last (sym e ∙ h))
has_last ts nodes begun outer last (f ∷ frames) h e =
    let same = same_from_push h.0 outer h.1 last (sym h.3 ∙ e) in
    subst (λ (l : Begun). HasLast ts nodes outer l (f ∷ frames)) same.1
    (record {
      before = h.2;
      outside = frames;
      frames_are = ap (λ (g : Frame). g ∷ frames) h.4;
      before_is = h.5;
      what_is = h.6;
      start_is = h.7;
      outer_are = subst (λ (xs : List Begun). AreBegun ts nodes xs frames) same.0 h.8;
    })

pub none_begun : (ts : List Token) (nodes : List Node) (begun : List Begun) (frames : List Frame) → AreBegun ts nodes begun frames → begun ≡ [] → frames ≡ []
none_begun ts nodes begun [] h e = refl
none_begun ts nodes begun (f ∷ frames) h e = absurd (some_not_none h.0 h.1 (sym h.3 ∙ e))

pub goes_unless : (ts : List Token) (p : Parser) (n : ℕ) (b : Bool) (move : Move) → b ≡ true → Follows ts p move → Follows ts p (unless_bad_dot b n move)
goes_unless ts p n b move e h = subst (λ (x : Bool). Follows ts p (unless_bad_dot x n move)) (sym e) h

pub halts_unless : (ts : List Token) (f : TreeError) (n : ℕ) (b : Bool) (move : Move) → b ≡ true → HaltsSo ts f move → HaltsSo ts f (unless_bad_dot b n move)
halts_unless ts f n b move e h = subst (λ (x : Bool). HaltsSo ts f (unless_bad_dot x n move)) (sym e) h

-- nothing stands in what was just begun
no_dots : (level : Level) → dotting_of level.dots ≡ Rattle.rf_base_tree.specs.Dotting.NoData → dotting_of level.dots ≡ dots_so_far Empty
unfolding marks_of
no_dots level e = e

-- what is begun
pub begin_follows : (ts : List Token) (n start : ℕ) (what : Opened) (p q : Parser) (frames : List Frame) (here : Forest) → StandsAt ts p frames here → IsOpenedAt ts what n start → Begins what n start p q → Follows ts q (begin (frame_of what n here) n frames)
begin_follows ts n start what p q frames here stands is begins =
    let last = begins.begun.0 in
    let room : length frames < depth_limit = omega (arith, begins.room, AreBegun-length ts p.nodes p.begun.items frames stands.begun_are) in
    subst (λ (move : Move). Follows ts q move) (sym (begin_goes (frame_of what n here) n frames room))
    (record {
      begun_are = (
        p.begun.items,
        last,
        here,
        begins.begun.1,
        ap (λ (w : Opened). frame_of w n here) (sym begins.begun.5) ∙ ap (λ (k : ℕ). frame_of last.opened k here) (sym begins.begun.3),
        subst (λ (l : Level). IsLevel ts q.nodes l here) (sym begins.begun.2) (subst (λ (xs : List Node). IsLevel ts xs p.here here) (sym begins.nodes) stands.here_is),
        subst (λ (w : Opened). IsOpened ts w last.item) (sym begins.begun.5) (subst (λ (k : ℕ). IsOpened ts what k) (sym begins.begun.3) is.0),
        begins.begun.4 ∙ sym is.1 ∙ ap (λ (k : ℕ). start_at ts k) (sym begins.begun.3),
        subst (λ (xs : List Node). AreBegun ts xs p.begun.items frames) (sym begins.nodes) stands.begun_are,
      );
      here_is = (
        subst (λ (ats : List At). UnfoldTo ts q.nodes ats Empty) (sym begins.here) (UnfoldTo-none ts q.nodes),
        no_dots q.here (ap dotting_of begins.dots),
      );
      sound = subst (λ (xs : List Node). AreSound ts xs) (sym begins.nodes) stands.sound;
    })

begin_halts : (f : Frame) (n : ℕ) (frames : List Frame) → depth_limit ≤ length frames → begin f n frames ≡ Halts TooDeep n
begin_halts f n frames full = ap (λ b. cond b (Goes (f ∷ frames) Empty) (Halts TooDeep n)) (le-ltb (length frames) depth_limit full)

pub too_deep_halts : (ts : List Token) (n start : ℕ) (f : Frame) (p : Parser) (e : TreeError) (frames : List Frame) (here : Forest) → StandsAt ts p frames here → start_at ts n ≡ start → TooDeepHere start p e → HaltsSo ts e (begin f n frames)
too_deep_halts ts n start f p (fault.Memory m) frames here stands s deep = tt
too_deep_halts ts n start f p (fault.Refused k offset) frames here stands s deep =
    let full : depth_limit ≤ length frames = omega (arith, deep.2, AreBegun-length ts p.nodes p.begun.items frames stands.begun_are) in
    subst (λ (move : Move). IsHalt ts k offset move) (sym (begin_halts f n frames full)) (deep.0, deep.1 ∙ sym s)

-- where the parser stands when a node was kept
pub stands_kept : (ts : List Token) (p q : Parser) (frames : List Frame) (here : Forest) (added : Node) (t : Tree) → StandsAt ts p frames here → Keeps added p q → Makes ts p.nodes added t → StandsAt ts q frames here
stands_kept ts p q frames here added t stands keeps makes =
    let nodes = p.nodes in
    record {
      begun_are =
          subst (λ (xs : List Node). AreBegun ts xs q.begun.items frames) (sym keeps.nodes)
          (subst (λ (bs : List Begun). AreBegun ts (nodes ++ added ∷ []) bs frames) (sym keeps.begun) (AreBegun-more ts nodes added p.begun.items frames stands.begun_are));
      here_is =
          subst (λ (xs : List Node). IsLevel ts xs q.here here) (sym keeps.nodes)
          (subst (λ (l : Level). IsLevel ts (nodes ++ added ∷ []) l here) (sym keeps.here) (IsLevel-more ts nodes added p.here here stands.here_is));
      sound = subst (λ (xs : List Node). AreSound ts xs) (sym keeps.nodes) (AreSound-push ts nodes added t stands.sound makes);
    }

-- a tree more stands here, whose node was kept before
pub stands_push : (ts : List Token) (p q : Parser) (frames : List Frame) (here : Forest) (at : At) (t : Tree) → StandsAt ts p frames here → UnfoldsTo ts p.nodes at.0 t → Gains at (marked t []) p.here q.here → q.nodes ≡ p.nodes → q.begun.items ≡ p.begun.items → StandsAt ts q frames (push here t)
stands_push ts p q frames here at t stands unfolds gains nodes begun =
    record {
      begun_are =
          subst (λ (xs : List Node). AreBegun ts xs q.begun.items frames) (sym nodes)
          (subst (λ (bs : List Begun). AreBegun ts p.nodes bs frames) (sym begun) stands.begun_are);
      here_is = subst (λ (xs : List Node). IsLevel ts xs q.here (push here t)) (sym nodes) (IsLevel-push ts p.nodes at p.here q.here here t stands.here_is gains unfolds);
      sound = subst (λ (xs : List Node). AreSound ts xs) (sym nodes) stands.sound;
    }

-- the node that was just kept stands for its tree
pub kept_unfolds : (ts : List Token) (p q : Parser) (added : Node) (t : Tree) (at : At) → Keeps added p q → Makes ts p.nodes added t → at.0 ≡ length p.nodes → UnfoldsTo ts q.nodes at.0 t
kept_unfolds ts p q added t at keeps makes e =
    subst (λ (k : ℕ). UnfoldsTo ts q.nodes k t) (sym e)
    (subst (λ (xs : List Node). UnfoldsTo ts xs (length p.nodes) t) (sym keeps.nodes) makes.unfolds)

-- nodes of one item
pub Makes-leaf : (ts : List Token) (nodes : List Node) (n : ℕ) → KindPasses is_whole ts n → n < length ts → Makes ts nodes (node.Leaf n) (Leaf n)
unfolding UnfoldsTo
Makes-leaf ts nodes n k lt = record { unfolds = (slice_get_last nodes (node.Leaf n), k); parts_first = tt; names = lt }

pub Makes-dot : (ts : List Token) (nodes : List Node) (n : ℕ) → kind_at ts n ≡ Some Dot → n < length ts → Makes ts nodes (node.Leaf n) (Point n)
unfolding UnfoldsTo
Makes-dot ts nodes n k lt = record { unfolds = (slice_get_last nodes (node.Leaf n), k); parts_first = tt; names = lt }

pub Makes-comment : (ts : List Token) (nodes : List Node) (n : ℕ) → n < length ts → Makes ts nodes (node.Comment n) (Comment n)
unfolding UnfoldsTo
Makes-comment ts nodes n lt = record { unfolds = slice_get_last nodes (node.Comment n); parts_first = tt; names = lt }

-- nodes of more items
pub Makes-list : (ts : List Token) (nodes : List Node) (opener closer : ℕ) (entries : List At) (here : Forest) → UnfoldTo ts nodes entries here → opener < length ts → closer < length ts → Makes ts nodes (node.ListNode opener entries closer) (Listed opener here closer)
unfolding UnfoldsTo
Makes-list ts nodes opener closer entries here h o c =
    record {
      unfolds = (entries, slice_get_last nodes (node.ListNode opener entries closer), UnfoldTo-more ts nodes (node.ListNode opener entries closer) entries here h);
      parts_first = UnfoldTo-below ts nodes entries here h;
      names = (o, c);
    }

pub Makes-prefixed : (ts : List Token) (nodes : List Node) (item : ℕ) (lead : List At) (inner : At) (here : Forest) (t : Tree) → UnfoldTo ts nodes lead here → UnfoldsTo ts nodes inner.0 t → item < length ts → Makes ts nodes (node.Prefixed item lead inner) (Prefixed item here t)
unfolding UnfoldsTo
Makes-prefixed ts nodes item lead inner here t h k lt =
    let added = node.Prefixed item lead inner in
    record {
      unfolds = (lead, inner, slice_get_last nodes added, UnfoldTo-more ts nodes added lead here h, UnfoldsTo-more ts nodes added inner.0 t k);
      parts_first = all_push (λ part. part.0 < length nodes) lead inner (UnfoldTo-below ts nodes lead here h) (UnfoldsTo-below ts nodes inner.0 t k);
      names = lt;
    }

pub Makes-skipped : (ts : List Token) (nodes : List Node) (item : ℕ) (lead : List At) (inner : At) (here : Forest) (t : Tree) → UnfoldTo ts nodes lead here → UnfoldsTo ts nodes inner.0 t → item < length ts → Makes ts nodes (node.DatumComment item lead inner) (DatumComment item here t)
unfolding UnfoldsTo
Makes-skipped ts nodes item lead inner here t h k lt =
    let added = node.DatumComment item lead inner in
    record {
      unfolds = (lead, inner, slice_get_last nodes added, UnfoldTo-more ts nodes added lead here h, UnfoldsTo-more ts nodes added inner.0 t k);
      parts_first = all_push (λ part. part.0 < length nodes) lead inner (UnfoldTo-below ts nodes lead here h) (UnfoldsTo-below ts nodes inner.0 t k);
      names = lt;
    }
