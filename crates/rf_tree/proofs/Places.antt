-- The parser's places are those of the definitions.
use Rattle.std.proofs.Common.{◌≡◌, ℕ, ◌+◌, ◌<◌, Bool, true, false, cond, not, Option, Some, List, [], ◌∷◌, ◌++◌, length, sym, ap, ◌∙◌, subst, arith, map, inl, inr, ◌⊎◌, ◌≤◌}
use Rattle.rf_base_grammar.specs.Token.{Token, item_of}
use Rattle.rf_base_grammar.specs.declared.items.Item.{Item}
use Rattle.std.proofs.lemmas.List.{length-map}
use Rattle.std.specs.Global.{Vec}
use Rattle.rf_base_grammar.specs.declared.kinds.Bracket.{Bracket}
use Rattle.rf_base_grammar.specs.declared.kinds.Kind.{Kind}
use Rattle.rf_base_grammar.specs.declared.kinds.Kind.TheVariants.{Opener, Closer}
use Rattle.rf_base_tree.specs.Trees.{Listed, Forest, Empty, kind_at}
use Rattle.rf_base_tree.specs.Dots.{marks_of}
use Rattle.rf_base_tree.specs.Dotting.{Dotting, ends_in_dot}
use Rattle.rf_base_tree.specs.Formed.{Treed}
use Rattle.rf_base_tree.specs.Places.{Frame, IsPlace}
use Rattle.rf_base_tree.specs.Refusals.{TreeRefused}
use Rattle.rf_base_tree.specs.Moves.{Move, Goes, Halts, behind_datum, dots_so_far, unless_bad_dot, same_bracket, close_list, close, move_at}
use Rattle.rf_base_tree.specs.declared.refusals.TreeKind.{TreeKind}
use Rattle.rf_base_tree.specs.declared.refusals.TreeKind.TheVariants.{CloseMismatch}
use Rattle.rf_base_tree.proofs.MoveMeans.{same_refl, MoveMeans, move_means, end_means}
use Rattle.rf_base_tree.proofs.OneTree.{Treed-apart, kind_within}
use Rattle.rf_tree.specs.Nodes.{UnfoldTo, AreSound}
use Rattle.rf_tree.specs.Next.{followed_by, frames_behind, here_behind, IsAtBehind, HoldNext}
use Rattle.rf_tree.specs.Dots.{dotting_of}
use Rattle.rf_tree.specs.Kept.{StandAtTop}
use Rattle.rf_tree.specs.Levels.{IsLevel}
use Rattle.rf_tree.specs.Parsing.{frame_of, IsItem, IsCloserAt, AreBegun, StandsAt, Follows, IsHalt, HaltsSo, CannotEnd, Ends, kind_left_open, TreeFault, IsRefusal, HasNoTree}
use Rattle.rf_tree.specs.declared.nodes.At.{At}
use Rattle.rf_tree.specs.Told.{Node}
use Rattle.rf_tree.specs.declared.trees.TreeError.{TreeError}
use Rattle.rf_tree.specs.declared.trees.TreeError.TheVariants as fault
use Rattle.rf_tree.specs.declared.dots.Dots.TheVariants.{NoData}
use Rattle.rf_tree.specs.declared.parser.Opened.{Opened}
use Rattle.rf_tree.specs.declared.parser.Opened.TheVariants as opened
use Rattle.rf_tree.specs.declared.parser.Begun.{Begun}
use Rattle.rf_tree.specs.declared.parser.Parser.{Parser}
use Rattle.rf_tree.proofs.Behind.{move_behind, followed_by_none, moves_behind}
use Rattle.rf_tree.proofs.Unfolding.{UnfoldTo-none}
use Rattle.rf_tree.proofs.Steps.{has_last, none_begun}
use Rattle.rf_tree.proofs.Carrying.{what_within}

-- before the first of trees behind others
pub IsAtBehind-start : (ts : List Token) (done : Forest) (n : ℕ) (p : Parser) → p.nodes ≡ [] → p.begun.items ≡ [] → p.here.nodes.items ≡ [] → p.here.dots ≡ NoData → IsPlace ts n [] done → IsAtBehind ts done n p
unfolding marks_of
IsAtBehind-start ts done n p nodes begun here dots place =
    record {
      frames = [];
      here = Empty;
      place = subst (λ (f : Forest). IsPlace ts n [] f) (sym (followed_by_none done)) place;
      stands = record {
        begun_are = begun;
        here_is = (subst (λ (ats : List At). UnfoldTo ts p.nodes ats Empty) (sym here) (UnfoldTo-none ts p.nodes), ap dotting_of dots);
        sound = subst (λ (xs : List Node). AreSound ts xs) (sym nodes) (record { parts_first = λ at n e. cc; names = tt });
      };
    }

-- a move that goes on leads to the next place
pub IsAtBehind-move : (ts : List Token) (done : Forest) (n : ℕ) (p q : Parser) (k : Kind) (h : IsAtBehind ts done n p) → kind_at ts n ≡ Some k → Follows ts q (move_at ts k n h.frames h.here) → IsAtBehind ts done (n + 1) q
IsAtBehind-move ts done n p q k h e f =
    by_move (move_at ts k n h.frames h.here)
    (subst (λ (move : Move). MoveMeans ts n (frames_behind done h.frames) (here_behind done h.frames h.here) move) (moves_behind ts done k n h.frames h.here)
    (move_means ts n (frames_behind done h.frames) (here_behind done h.frames h.here) k h.place e)) f
  where
    by_move : (move : Move) → MoveMeans ts n (frames_behind done h.frames) (here_behind done h.frames h.here) (move_behind done move) → Follows ts q move → IsAtBehind ts done (n + 1) q
    by_move (Goes frames here) m f = record { frames = frames; here = here; place = m; stands = f }
    by_move (Halts why item) m f = absurd f

-- a move that halts is a refusal
pub fault_here : (ts : List Token) (done : Forest) (n : ℕ) (p : Parser) (k : Kind) (e : TreeError) (h : IsAtBehind ts done n p) → kind_at ts n ≡ Some k → HaltsSo ts e (move_at ts k n h.frames h.here) → TreeFault ts e
fault_here ts done n p k (fault.Memory m) h is f = tt
fault_here ts done n p k (fault.Refused why offset) h is f =
    by_move (move_at ts k n h.frames h.here)
    (subst (λ (move : Move). MoveMeans ts n (frames_behind done h.frames) (here_behind done h.frames h.here) move) (moves_behind ts done k n h.frames h.here)
    (move_means ts n (frames_behind done h.frames) (here_behind done h.frames h.here) k h.place is)) f
  where
    by_move : (move : Move) → MoveMeans ts n (frames_behind done h.frames) (here_behind done h.frames h.here) (move_behind done move) → IsHalt ts why offset move → TreeRefused ts why offset
    by_move (Goes frames here) m f = absurd f
    by_move (Halts w item) m f =
        subst (λ (x : TreeKind). TreeRefused ts x offset) (sym f.0)
        (record {
          n = n;
          frames = frames_behind done h.frames;
          here = here_behind done h.frames h.here;
          place = h.place;
          item = item;
          halts = m;
          offset_is = f.1;
        })

-- where nothing is begun, the parser has the trees that come next
pub record HasNext (ts : List Token) (done : Forest) (n : ℕ) (p : Parser) : Type 0 where
  pub part : Forest
  pub place : IsPlace ts n [] (followed_by done part)
  pub stand_for : UnfoldTo ts p.nodes p.here.nodes.items part
  pub sound : AreSound ts p.nodes

pub has_next : (ts : List Token) (done : Forest) (n : ℕ) (p : Parser) → p.begun.items ≡ [] → IsAtBehind ts done n p → HasNext ts done n p
has_next ts done n p none h =
    let e = none_begun ts p.nodes p.begun.items h.frames h.stands.begun_are none in
    record {
      part = h.here;
      place = subst (λ (fs : List Frame). IsPlace ts n (frames_behind done fs) (here_behind done fs h.here)) e h.place;
      stand_for = h.stands.here_is.0;
      sound = h.stands.sound;
    }

-- where as many items as a number of memory has were to be taken, all were
pub all_taken : (items others : Vec Item) (next : ℕ) → others ≡ items →
    ((next ≡ length others.items) ⊎ ((next < length others.items) × (0 + 18446744073709551615 ≤ next))) → next ≡ length items.items
all_taken items others next same (inl end) = end ∙ ap (λ (v : Vec Item). length v.items) same
all_taken items others next same (inr far) =
    absurd (omega (arith, far.0, far.1, others.ok.0, others.ok.1, others.small))

-- what comes next from the first item to the last is the tree
pub treed_next : (ts : List Token) (items : List Item) (nodes : List Node) (tops : List At) (next : ℕ) → items ≡ map item_of ts → next ≡ length items →
    (h : HoldNext ts Empty nodes tops next) → Treed ts h.part
treed_next ts items nodes tops next is end h =
    end_means ts [] h.part (subst (λ (n : ℕ). IsPlace ts n [] h.part) (end ∙ ap (λ (is : List Item). length is) is ∙ length-map ts item_of) h.place)

-- what comes next stands at the top
pub stand_at_top : (ts : List Token) (before trees : Forest) (n : ℕ) → IsPlace ts n [] (followed_by before trees) → StandAtTop ts trees
unfolding StandAtTop
stand_at_top ts before trees n place = (before, n, place)

-- a closer where a list is on top
close_opened : (ts : List Token) (b c : Bracket) (hashed : Bool) (item n : ℕ) (before here : Forest) (frames : List Frame) → kind_at ts item ≡ Some (Opener b) → close ts c n (frame_of (opened.List b hashed) item before ∷ frames) here ≡ cond (same_bracket b c) (unless_bad_dot (not (ends_in_dot (dots_so_far here))) n (behind_datum frames before (Listed item here n))) (Halts CloseMismatch n)
close_opened ts b c hashed item n before here frames k = ap (λ (o : Option Kind). close_list o c n frames before item here) k

pub record ListOnTop (ts : List Token) (p : Parser) (outer : List Begun) (last : Begun) (b c : Bracket) (n : ℕ) (frames : List Frame) (here : Forest) : Type 0 where
  pub before : Forest
  pub outside : List Frame
  pub before_is : IsLevel ts p.nodes last.before before
  pub outer_are : AreBegun ts p.nodes outer outside
  pub within : last.item < length ts
  pub closes : close ts c n frames here ≡ cond (same_bracket b c) (unless_bad_dot (not (ends_in_dot (dotting_of p.here.dots))) n (behind_datum outside before (Listed last.item here n))) (Halts CloseMismatch n)

pub list_on_top : (ts : List Token) (p : Parser) (outer : List Begun) (last : Begun) (b c : Bracket) (hashed : Bool) (n : ℕ) (frames : List Frame) (here : Forest) → StandsAt ts p frames here → p.begun.items ≡ outer ++ last ∷ [] → last.opened ≡ opened.List b hashed → ListOnTop ts p outer last b c n frames here
list_on_top ts p outer last b c hashed n frames here stands some w =
    let v = has_last ts p.nodes p.begun.items outer last frames stands.begun_are some in
    let is = subst (λ (o : Opened). Rattle.rf_tree.specs.Parsing.IsOpened ts o last.item) w v.what_is in
    record {
      before = v.before;
      outside = v.outside;
      before_is = v.before_is;
      outer_are = v.outer_are;
      within = what_within ts last.opened last.item v.what_is;
      closes =
          ap (λ (fs : List Frame). close ts c n fs here) v.frames_are
          ∙ ap (λ (o : Opened). close ts c n (frame_of o last.item v.before ∷ v.outside) here) w
          ∙ close_opened ts b c hashed last.item n v.before here v.outside is.0
          ∙ ap (λ (s : Dotting). cond (same_bracket b c) (unless_bad_dot (not (ends_in_dot s)) n (behind_datum v.outside v.before (Listed last.item here n))) (Halts CloseMismatch n)) (sym stands.here_is.1);
    }

pub close_goes : (ts : List Token) (a m q : Parser) (outer : List Begun) (last : Begun) (b c : Bracket) (hashed : Bool) (n start : ℕ) (frames : List Frame) (here : Forest) → StandsAt ts a frames here → IsCloserAt ts c n start → a.begun.items ≡ outer ++ last ∷ [] → last.opened ≡ opened.List b hashed → b ≡ c → ends_in_dot (dotting_of a.here.dots) ≡ false → m.nodes ≡ a.nodes → m.here ≡ a.here → m.begun.items ≡ outer → Ends last n m q → Follows ts q (close ts c n frames here)
close_goes ts a m q outer last b c hashed n start frames here stands is some w same dots nodes level begun ends =
    let v = list_on_top ts a outer last b c hashed n frames here stands some w in
    let there : StandsAt ts m v.outside here = record {
      begun_are =
          subst (λ (xs : List Node). AreBegun ts xs m.begun.items v.outside) (sym nodes)
          (subst (λ (bs : List Begun). AreBegun ts a.nodes bs v.outside) (sym begun) v.outer_are);
      here_is =
          subst (λ (xs : List Node). IsLevel ts xs m.here here) (sym nodes)
          (subst (λ (l : Rattle.rf_tree.specs.declared.levels.Level.Level). IsLevel ts a.nodes l here) (sym level) stands.here_is);
      sound = subst (λ (xs : List Node). AreSound ts xs) (sym nodes) stands.sound;
    } in
    let level_is = subst (λ (xs : List Node). IsLevel ts xs last.before v.before) (sym nodes) v.before_is in
    let goes = ends ts v.outside v.before here there level_is v.within (kind_within ts n (Closer c) is.0) in
    let datum = behind_datum v.outside v.before (Listed last.item here n) in
    let test : same_bracket b c ≡ true = subst (λ (d : Bracket). same_bracket b d ≡ true) same (same_refl b) in
    let by_test : close ts c n frames here ≡ unless_bad_dot (not (ends_in_dot (dotting_of a.here.dots))) n datum =
    v.closes ∙ ap (λ (t : Bool). cond t (unless_bad_dot (not (ends_in_dot (dotting_of a.here.dots))) n datum) (Halts CloseMismatch n)) test in
    let by_dots : close ts c n frames here ≡ datum = by_test ∙ ap (λ (t : Bool). unless_bad_dot (not t) n datum) dots in
    subst (λ (move : Move). Follows ts q move) (sym by_dots) goes

-- refused items have no tree
pub no_tree : (ts : List Token) (e : TreeError) → TreeFault ts e → IsRefusal e → HasNoTree ts
no_tree ts (fault.Refused k offset) f r = λ trees t. Treed-apart ts trees k offset t f
no_tree ts (fault.Memory m) f r = absurd r
