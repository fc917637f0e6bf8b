-- What a turn does to a walk over frames, by how the walk of its frame goes on.
use Rattle.std.proofs.Common.{◌≡◌, ℕ, ◌+◌, ◌<◌, ◌≤◌, inl, inr, Bool, List, [], ◌∷◌, ◌++◌, Option, None, Some, ap, sym, subst, ◌∙◌, append-nil, arith}
use Rattle.rf_base_document.specs.declared.directions.Dir.{Dir}
use Rattle.rf_base_document.specs.declared.limits.TheConstants.{LAYOUT_LIMIT}
use Rattle.rf_base_document.specs.Document.{Doc}
use Rattle.rf_base_document.specs.Render.{Piece, piece_end, column_after}
use Rattle.rf_base_document.specs.Simple.{simple}
use Rattle.rf_base_document.proofs.Running.{column_after-snoc}
use Rattle.rf_flat.specs.Taken.{size_of}
use Rattle.rf_walk.specs.declared.walking.Frame.{Frame}
use Rattle.rf_walk.specs.Papers.{IsPastLimits, with_piece}
use Rattle.rf_walk.specs.Walked.{Walked, walked, and_walked, then_walked, walk_core, walk_frame, walk_all, frame_doc, Ending, ended, turns_of, CanGoOn, IsPastLimit}
use Rattle.rf_walk.proofs.Joins.{and_then, then_walked-assoc, then_walked-same, walk_all-snoc, ended-after, ended_least}

-- the clauses of a paper's methods at one blank paper, by what it holds before and after
abbrev pub Adds : (List Piece → ℕ → Type 0) → (List Piece → ℕ → Type 0) → (ℕ → Piece) → ℕ → Type 0
Adds old new piece by = (pieces : List Piece) (weight : ℕ) → old pieces weight → new (with_piece pieces piece) (weight + by)

abbrev pub Overfills : (List Piece → ℕ → Type 0) → (ℕ → Piece) → ℕ → Type 0
Overfills old piece by = (pieces : List Piece) (weight : ℕ) → old pieces weight → IsPastLimits (with_piece pieces piece) (weight + by)

abbrev pub AddsChoice : (List Piece → ℕ → Type 0) → (List Piece → ℕ → Type 0) → Type 0
AddsChoice old new = (pieces : List Piece) (weight : ℕ) → old pieces weight → new pieces (weight + 1)

abbrev pub OverfillsByChoice : (List Piece → ℕ → Type 0) → Type 0
OverfillsByChoice old = (pieces : List Piece) (weight : ℕ) → old pieces weight → LAYOUT_LIMIT < weight + 1

abbrev pub IsAt : (List Piece → ℕ → Type 0) → ℕ → Type 0
IsAt holds column = (pieces : List Piece) (weight : ℕ) → holds pieces weight → column ≡ column_after 0 pieces

turns_of-snoc : {N : Type 0} (doc : N → Doc) (fs : List (Frame N)) (f : Frame N) → turns_of doc (fs ++ f ∷ []) ≡ turns_of doc fs + size_of (frame_doc doc f)
unfolding turns_of
turns_of-snoc doc [] f = omega arith
turns_of-snoc doc (x ∷ fs) f = omega (arith, turns_of-snoc doc fs f)

-- the ending where the next frame is walked so
ends_at : {N : Type 0} (holds : List Piece → ℕ → Type 0) (doc : N → Doc) (fs : List (Frame N)) (f : Frame N) (cs : List Dir) (end : Ending) (o : Option Walked) →
    (can : CanGoOn holds doc (fs ++ f ∷ []) cs end) → walk_frame doc f (column_after 0 can.pieces) cs ≡ o →
    ended can.pieces can.weight (then_walked o (λ last left. walk_all doc fs last left)) ≡ Some end
ends_at holds doc fs f cs end o can is =
    ap (λ x. ended can.pieces can.weight (then_walked x (λ last left. walk_all doc fs last left))) (sym is)
    ∙ ap (λ x. ended can.pieces can.weight x) (sym (walk_all-snoc doc fs f (column_after 0 can.pieces) cs)) ∙ can.ends

-- a frame of one piece
abbrev pub WalksPiece : {N : Type 0} → (N → Doc) → Frame N → ℕ → List Dir → (ℕ → Piece) → Type 0
WalksPiece doc f c cs piece = walk_frame doc f c cs ≡ Some (walked (piece c ∷ []) (piece_end c (piece c)) 1 cs)

piece_ends : {N : Type 0} (holds : List Piece → ℕ → Type 0) (doc : N → Doc) (fs : List (Frame N)) (f : Frame N) (cs : List Dir) (end : Ending) (piece : ℕ → Piece) →
    (can : CanGoOn holds doc (fs ++ f ∷ []) cs end) → WalksPiece doc f (column_after 0 can.pieces) cs piece →
    ended (with_piece can.pieces piece) (can.weight + 1) (walk_all doc fs (piece_end (column_after 0 can.pieces) (piece (column_after 0 can.pieces))) cs) ≡ Some end
piece_ends holds doc fs f cs end piece can is =
    let c : ℕ = column_after 0 can.pieces in
    let w : Walked = walked (piece c ∷ []) (piece_end c (piece c)) 1 cs in
    sym (ended-after can.pieces can.weight w (walk_all doc fs (piece_end c (piece c)) cs)) ∙ ends_at holds doc fs f cs end (Some w) can is

pub piece_goes_on : {N : Type 0} (old new : List Piece → ℕ → Type 0) (doc : N → Doc) (fs : List (Frame N)) (f : Frame N) (cs : List Dir) (end : Ending) (piece : ℕ → Piece) → Adds old new piece 1 →
    (can : CanGoOn old doc (fs ++ f ∷ []) cs end) → WalksPiece doc f (column_after 0 can.pieces) cs piece → CanGoOn new doc fs cs end
piece_goes_on old new doc fs f cs end piece gains can is =
    let c : ℕ = column_after 0 can.pieces in
    record {
      pieces = with_piece can.pieces piece;
      weight = can.weight + 1;
      held = gains can.pieces can.weight can.held;
      ends =
          ap (λ n. ended (with_piece can.pieces piece) (can.weight + 1) (walk_all doc fs n cs)) (column_after-snoc 0 can.pieces (piece c))
          ∙ piece_ends old doc fs f cs end piece can is;
    }

pub piece_too_long : {N : Type 0} (holds : List Piece → ℕ → Type 0) (doc : N → Doc) (fs : List (Frame N)) (f : Frame N) (cs : List Dir) (end : Ending) (piece : ℕ → Piece) → Overfills holds piece 1 →
    (can : CanGoOn holds doc (fs ++ f ∷ []) cs end) → WalksPiece doc f (column_after 0 can.pieces) cs piece → IsPastLimit end
piece_too_long holds doc fs f cs end piece passes can is =
    let c : ℕ = column_after 0 can.pieces in
    let least =
    ended_least (with_piece can.pieces piece) (can.weight + 1) (walk_all doc fs (piece_end c (piece c)) cs) end (piece_ends holds doc fs f cs end piece can is) in
    elim (passes can.pieces can.weight can.held) [
      | inl h ↦ inl (omega (arith, least.0))
      | inr h ↦ inr (omega (arith, least.1))
    ]

-- a frame by its node's document, and a part's frame by its fields
pub frame_walks : {N : Type 0} (doc : N → Doc) (f : Frame N) (d : Doc) (c : ℕ) (cs : List Dir) → frame_doc doc f ≡ d →
    walk_frame doc f c cs ≡ walk_core (simple d f.flat) c f.indentation cs
frame_walks doc f d c cs known = ap (λ x. walk_core (simple x f.flat) c f.indentation cs) known

pub part_walks : {N : Type 0} (doc : N → Doc) (part : Frame N) (a : N) (i : ℕ) (flat : Bool) (c : ℕ) (cs : List Dir) → part.node ≡ a → part.indentation ≡ i → part.flat ≡ flat →
    walk_frame doc part c cs ≡ walk_core (simple (doc a) flat) c i cs
part_walks doc part a i flat c cs at indented is =
    ap (λ n. walk_core (simple (doc n) part.flat) c part.indentation cs) at
    ∙ ap (λ n. walk_core (simple (doc a) part.flat) c n cs) indented
    ∙ ap (λ (b : Bool). walk_core (simple (doc a) b) c i cs) is

-- a frame whose part is walked in its place
pub part_goes_on : {N : Type 0} (holds : List Piece → ℕ → Type 0) (doc : N → Doc) (fs fs' : List (Frame N)) (f part : Frame N) (cs : List Dir) (end : Ending) →
    (can : CanGoOn holds doc (fs ++ f ∷ []) cs end) → fs' ≡ fs ++ part ∷ [] →
    walk_frame doc f (column_after 0 can.pieces) cs ≡ walk_frame doc part (column_after 0 can.pieces) cs → CanGoOn holds doc fs' cs end
part_goes_on {N = N} holds doc fs fs' f part cs end can is same =
    let c : ℕ = column_after 0 can.pieces in
    subst (λ (l : List (Frame N)). CanGoOn holds doc l cs end) (sym is) (record {
      pieces = can.pieces;
      weight = can.weight;
      held = can.held;
      ends = ap (λ o. ended can.pieces can.weight o) (walk_all-snoc doc fs part c cs) ∙ ends_at holds doc fs f cs end (walk_frame doc part c cs) can same;
    })

-- a frame whose two parts are walked one after the other in its place
pub two_go_on : {N : Type 0} (holds : List Piece → ℕ → Type 0) (doc : N → Doc) (fs mid fs' : List (Frame N)) (f first second : Frame N) (cs : List Dir) (end : Ending) →
    (can : CanGoOn holds doc (fs ++ f ∷ []) cs end) → mid ≡ fs ++ second ∷ [] → fs' ≡ mid ++ first ∷ [] →
    walk_frame doc f (column_after 0 can.pieces) cs ≡ then_walked (walk_frame doc first (column_after 0 can.pieces) cs) (λ last left. walk_frame doc second last left) →
    CanGoOn holds doc fs' cs end
two_go_on {N = N} holds doc fs mid fs' f first second cs end can behind front is =
    let c : ℕ = column_after 0 can.pieces in
    let all : fs' ≡ (fs ++ second ∷ []) ++ first ∷ [] = front ∙ ap (λ l. l ++ first ∷ []) behind in
    let walks : walk_all doc ((fs ++ second ∷ []) ++ first ∷ []) c cs ≡ walk_all doc (fs ++ f ∷ []) c cs =
    walk_all-snoc doc (fs ++ second ∷ []) first c cs
    ∙ then_walked-same (walk_frame doc first c cs) (λ last left. walk_all doc (fs ++ second ∷ []) last left)
    (λ last left. then_walked (walk_frame doc second last left) (λ l r. walk_all doc fs l r)) (λ last left. walk_all-snoc doc fs second last left)
    ∙ sym (then_walked-assoc (walk_frame doc first c cs) (λ last left. walk_frame doc second last left) (λ l r. walk_all doc fs l r))
    ∙ ap (λ o. then_walked o (λ l r. walk_all doc fs l r)) (sym is)
    ∙ sym (walk_all-snoc doc fs f c cs) in
    subst (λ (l : List (Frame N)). CanGoOn holds doc l cs end) (sym all) (record {
      pieces = can.pieces;
      weight = can.weight;
      held = can.held;
      ends = ap (λ o. ended can.pieces can.weight o) walks ∙ can.ends;
    })

-- a frame that is walked as something before a part
pub before_goes_on : {N : Type 0} (old new : List Piece → ℕ → Type 0) (doc : N → Doc) (fs fs' : List (Frame N)) (f part : Frame N) (cs cs' : List Dir) (x : Walked) (end : Ending) →
    (can : CanGoOn old doc (fs ++ f ∷ []) cs end) → fs' ≡ fs ++ part ∷ [] →
    walk_frame doc f (column_after 0 can.pieces) cs ≡ and_walked x (walk_frame doc part (column_after 0 can.pieces) cs') →
    new (can.pieces ++ x.pieces) (can.weight + x.weight) → column_after 0 (can.pieces ++ x.pieces) ≡ column_after 0 can.pieces →
    CanGoOn new doc fs' cs' end
before_goes_on {N = N} old new doc fs fs' f part cs cs' x end can is walks held column =
    let c : ℕ = column_after 0 can.pieces in
    let inner : Option Walked = walk_frame doc part c cs' in
    subst (λ (l : List (Frame N)). CanGoOn new doc l cs' end) (sym is) (record {
      pieces = can.pieces ++ x.pieces;
      weight = can.weight + x.weight;
      held = held;
      ends =
          ap (λ n. ended (can.pieces ++ x.pieces) (can.weight + x.weight) (walk_all doc (fs ++ part ∷ []) n cs')) column
          ∙ ap (λ o. ended (can.pieces ++ x.pieces) (can.weight + x.weight) o) (walk_all-snoc doc fs part c cs')
          ∙ sym (ended-after can.pieces can.weight x (then_walked inner (λ l r. walk_all doc fs l r)))
          ∙ ap (λ o. ended can.pieces can.weight o) (sym (and_then x inner (λ l r. walk_all doc fs l r)))
          ∙ ends_at old doc fs f cs end (and_walked x inner) can walks;
    })

-- a frame of a choice goes on with its side
pub side_goes_on : {N : Type 0} (old new : List Piece → ℕ → Type 0) (doc : N → Doc) (fs fs' : List (Frame N)) (f part : Frame N) (cs rest : List Dir) (end : Ending) →
    (can : CanGoOn old doc (fs ++ f ∷ []) cs end) → fs' ≡ fs ++ part ∷ [] → AddsChoice old new →
    walk_frame doc f (column_after 0 can.pieces) cs ≡ and_walked (walked [] (column_after 0 can.pieces) 1 rest) (walk_frame doc part (column_after 0 can.pieces) rest) →
    CanGoOn new doc fs' rest end
side_goes_on old new doc fs fs' f part cs rest end can next gains walks =
    before_goes_on old new doc fs fs' f part cs rest (walked [] (column_after 0 can.pieces) 1 rest) end can next walks
    (subst (λ (ps : List Piece). new ps (can.weight + 1)) (sym (append-nil can.pieces)) (gains can.pieces can.weight can.held))
    (ap (column_after 0) (append-nil can.pieces))

pub side_too_long : {N : Type 0} (holds : List Piece → ℕ → Type 0) (doc : N → Doc) (fs : List (Frame N)) (f : Frame N) (cs rest : List Dir) (side : Option Walked) (end : Ending) →
    (can : CanGoOn holds doc (fs ++ f ∷ []) cs end) → OverfillsByChoice holds →
    walk_frame doc f (column_after 0 can.pieces) cs ≡ and_walked (walked [] (column_after 0 can.pieces) 1 rest) side → IsPastLimit end
side_too_long holds doc fs f cs rest side end can passes walks =
    let c : ℕ = column_after 0 can.pieces in
    let x : Walked = walked [] c 1 rest in
    let all : Option Walked = then_walked side (λ l r. walk_all doc fs l r) in
    let is : ended (can.pieces ++ []) (can.weight + 1) all ≡ Some end =
    sym (ended-after can.pieces can.weight x all)
    ∙ ap (λ o. ended can.pieces can.weight o) (sym (and_then x side (λ l r. walk_all doc fs l r)))
    ∙ ends_at holds doc fs f cs end (and_walked x side) can walks in
    inr (omega (arith, (ended_least (can.pieces ++ []) (can.weight + 1) all end is).1, passes can.pieces can.weight can.held))

-- a walk that doesn't go on has no ending
pub no_ending : {N : Type 0} (holds : List Piece → ℕ → Type 0) (doc : N → Doc) (fs : List (Frame N)) (f : Frame N) (cs : List Dir) (end : Ending) → (can : CanGoOn holds doc (fs ++ f ∷ []) cs end) →
    walk_frame doc f (column_after 0 can.pieces) cs ≡ None → ⊥
no_ending holds doc fs f cs end can none = let two : None ≡ Some end = ends_at holds doc fs f cs end None can none in cc

-- fewer turns are left
pub fewer_of_one : {N : Type 0} (doc : N → Doc) (fs fs' : List (Frame N)) (f part : Frame N) (a : N) (d : Doc) → fs' ≡ fs ++ part ∷ [] → part.node ≡ a → doc f.node ≡ d →
    size_of (doc a) < size_of d → turns_of doc fs' < turns_of doc (fs ++ f ∷ [])
fewer_of_one doc fs fs' f part a d next at known less =
    let same : size_of (frame_doc doc part) ≡ size_of (doc a) = ap (λ n. size_of (doc n)) at in
    omega (arith, ap (turns_of doc) next, turns_of-snoc doc fs f, turns_of-snoc doc fs part, ap size_of known, same)

pub fewer_of_two : {N : Type 0} (doc : N → Doc) (fs mid fs' : List (Frame N)) (f first second : Frame N) (a b : N) (d : Doc) → mid ≡ fs ++ second ∷ [] → fs' ≡ mid ++ first ∷ [] →
    first.node ≡ a → second.node ≡ b → doc f.node ≡ d → size_of (doc a) + size_of (doc b) < size_of d →
    turns_of doc fs' < turns_of doc (fs ++ f ∷ [])
fewer_of_two doc fs mid fs' f first second a b d behind front at_a at_b known less =
    omega (
      arith,
      ap (turns_of doc) (front ∙ ap (λ l. l ++ first ∷ []) behind),
      turns_of-snoc doc fs f,
      turns_of-snoc doc (fs ++ second ∷ []) first,
      turns_of-snoc doc fs second,
      ap size_of known,
      ap (λ n. size_of (doc n)) at_a,
      ap (λ n. size_of (doc n)) at_b,
    )

pub leaf_fewer : {N : Type 0} (doc : N → Doc) (fs : List (Frame N)) (f : Frame N) (d : Doc) → doc f.node ≡ d → 1 ≤ size_of d → turns_of doc fs < turns_of doc (fs ++ f ∷ [])
leaf_fewer doc fs f d known size = omega (arith, turns_of-snoc doc fs f, ap size_of known)
