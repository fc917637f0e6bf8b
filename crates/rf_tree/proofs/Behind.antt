-- Behind trees at the top the plain reader makes the moves that it makes without them.
use Rattle.std.proofs.Common.{◌≡◌, ℕ, suc, nat_lt, Bool, true, false, not, cond, Option, Some, List, [], ◌∷◌, length, refl, ap, ◌∙◌}
use Rattle.rf_base_grammar.specs.Token.{Token}
use Rattle.rf_base_grammar.specs.declared.kinds.Bracket.{Bracket}
use Rattle.rf_base_grammar.specs.declared.kinds.Kind.{Kind}
use Rattle.rf_base_grammar.specs.declared.kinds.Kind.TheVariants.{Opener, Closer, Prefix, Skip, Dot, Block, Line}
use Rattle.rf_base_tree.specs.Trees.{Tree, Leaf, Point, Comment, Prefixed, DatumComment, Listed, Forest, Empty, Then, kind_at}
use Rattle.rf_base_tree.specs.Dotting.{ends_in_dot}
use Rattle.rf_base_tree.specs.Formed.{depth_limit}
use Rattle.rf_base_tree.specs.Places.{Frame, InList, InPrefix, InSkip}
use Rattle.rf_base_tree.specs.Moves.{Move, Goes, Halts, push, behind_datum, dots_so_far, datum_may_stand, dot_may_stand, unless_bad_dot, begin, same_bracket, close_list, close, move_at}
use Rattle.rf_base_tree.specs.declared.refusals.TreeKind.TheVariants.{CloseMismatch, TooDeep}
use Rattle.rf_tree.specs.Parsing.{frame_of}
use Rattle.rf_tree.specs.Next.{followed_by, frames_behind, here_behind}
use Rattle.rf_tree.specs.declared.parser.Opened.{Opened}
use Rattle.rf_tree.specs.declared.parser.Opened.TheVariants as opened

-- the move behind these trees
abbrev pub move_behind : Forest → Move → Move
move_behind done (Goes frames here) = Goes (frames_behind done frames) (here_behind done frames here)
move_behind done (Halts why item) = Halts why item

push_behind : (done here : Forest) (t : Tree) → push (followed_by done here) t ≡ followed_by done (push here t)
push_behind Empty here t = refl
push_behind (Then u done) here t = ap (λ (f : Forest). Then u f) (push_behind done here t)

pub followed_by_none : (done : Forest) → followed_by done Empty ≡ done
followed_by_none Empty = refl
followed_by_none (Then u done) = ap (λ (f : Forest). Then u f) (followed_by_none done)

pushed : (done here : Forest) (t : Tree) → Goes [] (push (followed_by done here) t) ≡ Goes [] (followed_by done (push here t))
pushed done here t = ap (λ (f : Forest). Goes [] f) (push_behind done here t)

datum_behind : (done : Forest) (frames : List Frame) (here : Forest) (t : Tree) →
    behind_datum (frames_behind done frames) (here_behind done frames here) t ≡ move_behind done (behind_datum frames here t)
datum_behind done [] here t = pushed done here t
datum_behind done (InList before opener ∷ []) here t = refl
datum_behind done (InList before opener ∷ f ∷ frames) here t = refl
datum_behind done (InPrefix before item ∷ []) here t = pushed done before (Prefixed item here t)
datum_behind done (InPrefix before item ∷ f ∷ frames) here t = datum_behind done (f ∷ frames) before (Prefixed item here t)
datum_behind done (InSkip before item ∷ []) here t = pushed done before (DatumComment item here t)
datum_behind done (InSkip before item ∷ f ∷ frames) here t = refl

datum_stands_behind : (done : Forest) (frames : List Frame) (here : Forest) →
    datum_may_stand (frames_behind done frames) (here_behind done frames here) ≡ datum_may_stand frames here
datum_stands_behind done [] here = refl
datum_stands_behind done (InList before opener ∷ []) here = refl
datum_stands_behind done (InList before opener ∷ f ∷ frames) here = refl
datum_stands_behind done (InPrefix before item ∷ []) here = refl
datum_stands_behind done (InPrefix before item ∷ f ∷ frames) here = refl
datum_stands_behind done (InSkip before item ∷ []) here = refl
datum_stands_behind done (InSkip before item ∷ f ∷ frames) here = refl

dot_stands_behind : (ts : List Token) (done : Forest) (frames : List Frame) (here : Forest) →
    dot_may_stand ts (frames_behind done frames) (here_behind done frames here) ≡ dot_may_stand ts frames here
dot_stands_behind ts done [] here = refl
dot_stands_behind ts done (InList before opener ∷ []) here = refl
dot_stands_behind ts done (InList before opener ∷ f ∷ frames) here = refl
dot_stands_behind ts done (InPrefix before item ∷ []) here = refl
dot_stands_behind ts done (InPrefix before item ∷ f ∷ frames) here = refl
dot_stands_behind ts done (InSkip before item ∷ []) here = refl
dot_stands_behind ts done (InSkip before item ∷ f ∷ frames) here = refl

-- what stands here is pushed, whatever was begun
push_here : (done : Forest) (frames : List Frame) (here : Forest) (t : Tree) →
    Goes (frames_behind done frames) (push (here_behind done frames here) t) ≡ move_behind done (Goes frames (push here t))
push_here done [] here t = pushed done here t
push_here done (f ∷ frames) here t = refl

unless_behind : (done : Forest) (a b : Bool) (n : ℕ) (move other : Move) → a ≡ b → move ≡ move_behind done other →
    unless_bad_dot a n move ≡ move_behind done (unless_bad_dot b n other)
unless_behind done a true n move other e m = ap (λ (x : Bool). unless_bad_dot x n move) e ∙ m
unless_behind done a false n move other e m = ap (λ (x : Bool). unless_bad_dot x n move) e

pub frames_length : (done : Forest) (frames : List Frame) → length (frames_behind done frames) ≡ length frames
frames_length done [] = refl
frames_length done (f ∷ []) = refl
frames_length done (f ∷ g ∷ frames) = ap suc (frames_length done (g ∷ frames))

-- what is begun here, by a list, a prefix or a skip
frame_goes : (done : Forest) (what : Opened) (n : ℕ) (frames : List Frame) (here : Forest) →
    Goes (frame_of what n (here_behind done frames here) ∷ frames_behind done frames) Empty ≡ move_behind done (Goes (frame_of what n here ∷ frames) Empty)
frame_goes done (opened.List bracket hashed) n [] here = refl
frame_goes done opened.Prefix n [] here = refl
frame_goes done opened.Skip n [] here = refl
frame_goes done what n (f ∷ frames) here = refl

by_room : (done : Forest) (b : Bool) (n : ℕ) (move other : Move) → move ≡ move_behind done other →
    cond b move (Halts TooDeep n) ≡ move_behind done (cond b other (Halts TooDeep n))
by_room done true n move other e = e
by_room done false n move other e = refl

begin_behind : (done : Forest) (what : Opened) (n : ℕ) (frames : List Frame) (here : Forest) →
    begin (frame_of what n (here_behind done frames here)) n (frames_behind done frames) ≡ move_behind done (begin (frame_of what n here) n frames)
begin_behind done what n frames here =
    ap (λ (k : ℕ). cond (nat_lt k depth_limit) (Goes (frame_of what n (here_behind done frames here) ∷ frames_behind done frames) Empty) (Halts TooDeep n)) (frames_length done frames)
    ∙ by_room done (nat_lt (length frames) depth_limit) n _ (Goes (frame_of what n here ∷ frames) Empty) (frame_goes done what n frames here)

close_list_behind : (done : Forest) (k : Option Kind) (c : Bracket) (n : ℕ) (frames : List Frame) (before here : Forest) (opener : ℕ) →
    close_list k c n (frames_behind done frames) (here_behind done frames before) opener here ≡ move_behind done (close_list k c n frames before opener here)
close_list_behind done (Some (Opener b)) c n frames before here opener =
    by_bracket (same_bracket b c)
    (unless_behind done (not (ends_in_dot (dots_so_far here))) (not (ends_in_dot (dots_so_far here))) n _ (behind_datum frames before (Listed opener here n)) refl
    (datum_behind done frames before (Listed opener here n)))
  where
    by_bracket : (t : Bool) →
        unless_bad_dot (not (ends_in_dot (dots_so_far here))) n (behind_datum (frames_behind done frames) (here_behind done frames before) (Listed opener here n))
        ≡ move_behind done (unless_bad_dot (not (ends_in_dot (dots_so_far here))) n (behind_datum frames before (Listed opener here n))) →
        cond t (unless_bad_dot (not (ends_in_dot (dots_so_far here))) n (behind_datum (frames_behind done frames) (here_behind done frames before) (Listed opener here n))) (Halts CloseMismatch n)
        ≡ move_behind done (cond t (unless_bad_dot (not (ends_in_dot (dots_so_far here))) n (behind_datum frames before (Listed opener here n))) (Halts CloseMismatch n))
    by_bracket true e = e
    by_bracket false e = refl
close_list_behind done _ c n frames before here opener = refl

close_behind : (ts : List Token) (done : Forest) (c : Bracket) (n : ℕ) (frames : List Frame) (here : Forest) →
    close ts c n (frames_behind done frames) (here_behind done frames here) ≡ move_behind done (close ts c n frames here)
close_behind ts done c n [] here = refl
close_behind ts done c n (InList before opener ∷ []) here = close_list_behind done (kind_at ts opener) c n [] before here opener
close_behind ts done c n (InList before opener ∷ f ∷ frames) here = close_list_behind done (kind_at ts opener) c n (f ∷ frames) before here opener
close_behind ts done c n (InPrefix before item ∷ []) here = refl
close_behind ts done c n (InPrefix before item ∷ f ∷ frames) here = refl
close_behind ts done c n (InSkip before item ∷ []) here = refl
close_behind ts done c n (InSkip before item ∷ f ∷ frames) here = refl

leaf_behind : (done : Forest) (n : ℕ) (frames : List Frame) (here : Forest) →
    unless_bad_dot (datum_may_stand (frames_behind done frames) (here_behind done frames here)) n (behind_datum (frames_behind done frames) (here_behind done frames here) (Leaf n))
    ≡ move_behind done (unless_bad_dot (datum_may_stand frames here) n (behind_datum frames here (Leaf n)))
leaf_behind done n frames here =
    unless_behind done _ (datum_may_stand frames here) n _ (behind_datum frames here (Leaf n)) (datum_stands_behind done frames here) (datum_behind done frames here (Leaf n))

pub moves_behind : (ts : List Token) (done : Forest) (k : Kind) (n : ℕ) (frames : List Frame) (here : Forest) →
    move_at ts k n (frames_behind done frames) (here_behind done frames here) ≡ move_behind done (move_at ts k n frames here)
moves_behind ts done (Opener b) n frames here =
    unless_behind done _ (datum_may_stand frames here) n _ (begin (InList here n) n frames) (datum_stands_behind done frames here) (begin_behind done (opened.List b false) n frames here)
moves_behind ts done (Closer c) n frames here = close_behind ts done c n frames here
moves_behind ts done Prefix n frames here =
    unless_behind done _ (datum_may_stand frames here) n _ (begin (InPrefix here n) n frames) (datum_stands_behind done frames here) (begin_behind done opened.Prefix n frames here)
moves_behind ts done Skip n frames here = begin_behind done opened.Skip n frames here
moves_behind ts done Dot n frames here =
    unless_behind done _ (dot_may_stand ts frames here) n _ (Goes frames (push here (Point n))) (dot_stands_behind ts done frames here) (push_here done frames here (Point n))
moves_behind ts done Block n frames here = push_here done frames here (Comment n)
moves_behind ts done Line n frames here = push_here done frames here (Comment n)
moves_behind ts done _ n frames here = leaf_behind done n frames here
