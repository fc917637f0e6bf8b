-- What a turn does to a walk, by the kind of its frame's node.
use Rattle.std.proofs.Common.{◌≡◌, ℕ, ◌*◌, ◌<◌, ◌≤◌, inl, inr, Bool, true, List, [], ◌∷◌, ◌++◌, length, Option, None, ap, sym, subst, ◌∙◌, refl, arith}
use Rattle.rf_base_document.specs.declared.directions.Dir.{Dir}
use Rattle.rf_base_document.specs.declared.directions.Dir.TheVariants.{Left, Right}
use Rattle.rf_base_document.specs.Document.{Doc, Text, Newline, Hard, Concat, Nest, Align, Reset, Flatten, Choice, Only, Charge, IsDocument}
use Rattle.rf_base_document.specs.Render.{Piece, Word, Break, Fee, column_after}
use Rattle.rf_base_document.specs.Simple.{simple}
use Rattle.rf_base_document.proofs.Running.{column_after-snoc}
use Rattle.rf_flat.specs.Taken.{size_of, side_of}
use Rattle.rf_walk.specs.declared.walking.Frame.{Frame}
use Rattle.rf_walk.specs.Walked.{Walked, walked, and_walked, then_walked, deeper, walk, walk_core, walk_frame, newline_piece, Ending, turns_of, CanGoOn, IsPastLimit}
use Rattle.rf_walk.proofs.Joins.{then_walked-same}
use Rattle.rf_walk.proofs.CoreWalks.{newline_walked, hard_walked, concat_walked, nest_walked, align_walked, reset_walked, charge_walked, left_walked, right_walked, choice_unwalked, only_walked, only_unwalked}
use Rattle.rf_walk.proofs.Frames.{Adds, Overfills, AddsChoice, OverfillsByChoice, IsAt, WalksPiece, piece_goes_on, piece_too_long, frame_walks, part_walks, part_goes_on, two_go_on, before_goes_on, side_goes_on, side_too_long, no_ending, fewer_of_one}

-- a text and a charge keep their limits
pub text_limits : (d : Doc) (s : List ℕ) (len : ℕ) → d ≡ Text s len → IsDocument d → len ≤ 2 * length s
unfolding IsDocument
text_limits d s len is whole = (subst (λ (x : Doc). IsDocument x) is whole).1

pub charge_limit : (d a : Doc) (k : ℕ) → d ≡ Charge k a → IsDocument d → k ≤ 1000
unfolding IsDocument
charge_limit d a k is whole = (subst (λ (x : Doc). IsDocument x) is whole).0

-- texts and newlines
text_walks : {N : Type 0} (doc : N → Doc) (f : Frame N) (c len : ℕ) (s : List ℕ) (cs : List Dir) → doc f.node ≡ Text s len →
    WalksPiece doc f c cs (λ column. Word column s len)
unfolding walk simple
text_walks doc f c len s cs is = frame_walks doc f (Text s len) c cs is

newline_walks : {N : Type 0} (doc : N → Doc) (f : Frame N) (c : ℕ) (cs : List Dir) → doc f.node ≡ Newline →
    WalksPiece doc f c cs (newline_piece f.flat f.indentation)
unfolding simple
newline_walks doc f c cs is = frame_walks doc f Newline c cs is ∙ newline_walked f.flat c f.indentation cs

hard_walks : {N : Type 0} (holds : List Piece → ℕ → Type 0) (doc : N → Doc) (fs : List (Frame N)) (f : Frame N) (cs : List Dir) (end : Ending) → doc f.node ≡ Hard →
    (can : CanGoOn holds doc (fs ++ f ∷ []) cs end) → WalksPiece doc f (column_after 0 can.pieces) cs (λ column. Break f.indentation)
unfolding simple
hard_walks holds doc fs f cs end is can =
    let c : ℕ = column_after 0 can.pieces in
    let known = frame_walks doc f Hard c cs is in
    elim (hard_walked f.flat c f.indentation cs) [
      | inl h ↦ known ∙ h
      | inr h ↦ absurd (no_ending holds doc fs f cs end can (known ∙ h))
    ]

pub text_goes_on : {N : Type 0} (old new : List Piece → ℕ → Type 0) (doc : N → Doc) (fs : List (Frame N)) (f : Frame N) (cs : List Dir) (len : ℕ) (s : List ℕ) →
    doc f.node ≡ Text s len → Adds old new (λ column. Word column s len) 1 → (end : Ending) → CanGoOn old doc (fs ++ f ∷ []) cs end → CanGoOn new doc fs cs end
text_goes_on old new doc fs f cs len s is gains end can =
    piece_goes_on old new doc fs f cs end (λ column. Word column s len) gains can (text_walks doc f (column_after 0 can.pieces) len s cs is)

pub text_too_long : {N : Type 0} (holds : List Piece → ℕ → Type 0) (doc : N → Doc) (fs : List (Frame N)) (f : Frame N) (cs : List Dir) (len : ℕ) (s : List ℕ) →
    doc f.node ≡ Text s len → Overfills holds (λ column. Word column s len) 1 → (end : Ending) → CanGoOn holds doc (fs ++ f ∷ []) cs end → IsPastLimit end
text_too_long holds doc fs f cs len s is passes end can =
    piece_too_long holds doc fs f cs end (λ column. Word column s len) passes can (text_walks doc f (column_after 0 can.pieces) len s cs is)

pub newline_goes_on : {N : Type 0} (old new : List Piece → ℕ → Type 0) (doc : N → Doc) (fs : List (Frame N)) (f : Frame N) (cs : List Dir) →
    doc f.node ≡ Newline → Adds old new (newline_piece f.flat f.indentation) 1 → (end : Ending) → CanGoOn old doc (fs ++ f ∷ []) cs end → CanGoOn new doc fs cs end
newline_goes_on old new doc fs f cs is gains end can =
    piece_goes_on old new doc fs f cs end (newline_piece f.flat f.indentation) gains can (newline_walks doc f (column_after 0 can.pieces) cs is)

pub newline_too_long : {N : Type 0} (holds : List Piece → ℕ → Type 0) (doc : N → Doc) (fs : List (Frame N)) (f : Frame N) (cs : List Dir) →
    doc f.node ≡ Newline → Overfills holds (newline_piece f.flat f.indentation) 1 → (end : Ending) → CanGoOn holds doc (fs ++ f ∷ []) cs end → IsPastLimit end
newline_too_long holds doc fs f cs is passes end can =
    piece_too_long holds doc fs f cs end (newline_piece f.flat f.indentation) passes can (newline_walks doc f (column_after 0 can.pieces) cs is)

pub hard_goes_on : {N : Type 0} (old new : List Piece → ℕ → Type 0) (doc : N → Doc) (fs : List (Frame N)) (f : Frame N) (cs : List Dir) →
    doc f.node ≡ Hard → Adds old new (λ column. Break f.indentation) 1 → (end : Ending) → CanGoOn old doc (fs ++ f ∷ []) cs end → CanGoOn new doc fs cs end
hard_goes_on old new doc fs f cs is gains end can =
    piece_goes_on old new doc fs f cs end (λ column. Break f.indentation) gains can (hard_walks old doc fs f cs end is can)

pub hard_too_long : {N : Type 0} (holds : List Piece → ℕ → Type 0) (doc : N → Doc) (fs : List (Frame N)) (f : Frame N) (cs : List Dir) →
    doc f.node ≡ Hard → Overfills holds (λ column. Break f.indentation) 1 → (end : Ending) → CanGoOn holds doc (fs ++ f ∷ []) cs end → IsPastLimit end
hard_too_long holds doc fs f cs is passes end can =
    piece_too_long holds doc fs f cs end (λ column. Break f.indentation) passes can (hard_walks holds doc fs f cs end is can)

-- a frame whose part is walked in its place
under_goes_on : {N : Type 0} (holds : List Piece → ℕ → Type 0) (doc : N → Doc) (fs fs' : List (Frame N)) (f part : Frame N) (a : N) (i : ℕ) (flat : Bool) (cs : List Dir) (d : Doc) →
    doc f.node ≡ d → fs' ≡ fs ++ part ∷ [] → part.node ≡ a → part.indentation ≡ i → part.flat ≡ flat →
    (end : Ending) → (can : CanGoOn holds doc (fs ++ f ∷ []) cs end) →
    walk_core (simple d f.flat) (column_after 0 can.pieces) f.indentation cs ≡ walk_core (simple (doc a) flat) (column_after 0 can.pieces) i cs →
    CanGoOn holds doc fs' cs end
under_goes_on holds doc fs fs' f part a i flat cs d is next at indented so end can walks =
    let c : ℕ = column_after 0 can.pieces in
    part_goes_on holds doc fs fs' f part cs end can next
    (frame_walks doc f d c cs is ∙ walks ∙ sym (part_walks doc part a i flat c cs at indented so))

pub nest_goes_on : {N : Type 0} (holds : List Piece → ℕ → Type 0) (doc : N → Doc) (fs fs' : List (Frame N)) (f part : Frame N) (k : ℕ) (a : N) (cs : List Dir) → doc f.node ≡ Nest k (doc a) →
    fs' ≡ fs ++ part ∷ [] → part.node ≡ a → part.indentation ≡ deeper f.indentation k → part.flat ≡ f.flat →
    (end : Ending) → CanGoOn holds doc (fs ++ f ∷ []) cs end → CanGoOn holds doc fs' cs end
unfolding simple
nest_goes_on holds doc fs fs' f part k a cs is next at indented so end can =
    under_goes_on holds doc fs fs' f part a (deeper f.indentation k) f.flat cs (Nest k (doc a)) is next at indented so end can
    (nest_walked (simple (doc a) f.flat) k (column_after 0 can.pieces) f.indentation cs)

pub align_goes_on : {N : Type 0} (holds : List Piece → ℕ → Type 0) (doc : N → Doc) (fs fs' : List (Frame N)) (f part : Frame N) (a : N) (column : ℕ) (cs : List Dir) →
    doc f.node ≡ Align (doc a) →
    fs' ≡ fs ++ part ∷ [] → part.node ≡ a → part.indentation ≡ column → part.flat ≡ f.flat → IsAt holds column →
    (end : Ending) → CanGoOn holds doc (fs ++ f ∷ []) cs end → CanGoOn holds doc fs' cs end
unfolding simple
align_goes_on holds doc fs fs' f part a column cs is next at indented so ended_at end can =
    under_goes_on holds doc fs fs' f part a column f.flat cs (Align (doc a)) is next at indented so end can
    (align_walked (simple (doc a) f.flat) (column_after 0 can.pieces) f.indentation cs
    ∙ ap (λ n. walk_core (simple (doc a) f.flat) (column_after 0 can.pieces) n cs) (sym (ended_at can.pieces can.weight can.held)))

pub reset_goes_on : {N : Type 0} (holds : List Piece → ℕ → Type 0) (doc : N → Doc) (fs fs' : List (Frame N)) (f part : Frame N) (a : N) (cs : List Dir) → doc f.node ≡ Reset (doc a) →
    fs' ≡ fs ++ part ∷ [] → part.node ≡ a → part.indentation ≡ 0 → part.flat ≡ f.flat →
    (end : Ending) → CanGoOn holds doc (fs ++ f ∷ []) cs end → CanGoOn holds doc fs' cs end
unfolding simple
reset_goes_on holds doc fs fs' f part a cs is next at indented so end can =
    under_goes_on holds doc fs fs' f part a 0 f.flat cs (Reset (doc a)) is next at indented so end can
    (reset_walked (simple (doc a) f.flat) (column_after 0 can.pieces) f.indentation cs)

pub flatten_goes_on : {N : Type 0} (holds : List Piece → ℕ → Type 0) (doc : N → Doc) (fs fs' : List (Frame N)) (f part : Frame N) (a : N) (cs : List Dir) → doc f.node ≡ Flatten (doc a) →
    fs' ≡ fs ++ part ∷ [] → part.node ≡ a → part.indentation ≡ f.indentation → part.flat ≡ true →
    (end : Ending) → CanGoOn holds doc (fs ++ f ∷ []) cs end → CanGoOn holds doc fs' cs end
unfolding simple
flatten_goes_on holds doc fs fs' f part a cs is next at indented so end can =
    under_goes_on holds doc fs fs' f part a f.indentation true cs (Flatten (doc a)) is next at indented so end can refl

-- a concatenation
pub concat_goes_on : {N : Type 0} (holds : List Piece → ℕ → Type 0) (doc : N → Doc) (fs mid fs' : List (Frame N)) (f first second : Frame N) (a b : N) (cs : List Dir) →
    doc f.node ≡ Concat (doc a) (doc b) → mid ≡ fs ++ second ∷ [] → fs' ≡ mid ++ first ∷ [] → first.node ≡ a → second.node ≡ b →
    first.indentation ≡ f.indentation → second.indentation ≡ f.indentation → first.flat ≡ f.flat → second.flat ≡ f.flat →
    (end : Ending) → CanGoOn holds doc (fs ++ f ∷ []) cs end → CanGoOn holds doc fs' cs end
unfolding simple
concat_goes_on holds doc fs mid fs' f first second a b cs is behind front at_a at_b in_a in_b so_a so_b end can =
    let i : ℕ = f.indentation in
    let c : ℕ = column_after 0 can.pieces in
    let left : Option Doc = simple (doc a) f.flat in
    let right : Option Doc = simple (doc b) f.flat in
    let walks : walk_frame doc f c cs ≡ then_walked (walk_frame doc first c cs) (λ last rest. walk_frame doc second last rest) =
    frame_walks doc f (Concat (doc a) (doc b)) c cs is ∙ concat_walked left right c i cs
    ∙ then_walked-same (walk_core left c i cs) (λ last rest. walk_core right last i rest) (λ last rest. walk_frame doc second last rest)
    (λ last rest. sym (part_walks doc second b i f.flat last rest at_b in_b so_b))
    ∙ ap (λ o. then_walked o (λ last rest. walk_frame doc second last rest)) (sym (part_walks doc first a i f.flat c cs at_a in_a so_a)) in
    two_go_on holds doc fs mid fs' f first second cs end can behind front walks

-- a charge
pub charge_goes_on : {N : Type 0} (old new : List Piece → ℕ → Type 0) (doc : N → Doc) (fs fs' : List (Frame N)) (f part : Frame N) (k : ℕ) (a : N) (cs : List Dir) →
    doc f.node ≡ Charge k (doc a) →
    fs' ≡ fs ++ part ∷ [] → part.node ≡ a → part.indentation ≡ f.indentation → part.flat ≡ f.flat → Adds old new (λ column. Fee k) 0 →
    (end : Ending) → CanGoOn old doc (fs ++ f ∷ []) cs end → CanGoOn new doc fs' cs end
unfolding simple
charge_goes_on old new doc fs fs' f part k a cs is next at indented so gains end can =
    let c : ℕ = column_after 0 can.pieces in
    let x : Walked = walked (Fee k ∷ []) c 0 cs in
    let walks : walk_frame doc f c cs ≡ and_walked x (walk_frame doc part c cs) =
    frame_walks doc f (Charge k (doc a)) c cs is
    ∙ charge_walked (simple (doc a) f.flat) k c f.indentation cs
    ∙ ap (λ o. and_walked x o) (sym (part_walks doc part a f.indentation f.flat c cs at indented so)) in
    before_goes_on old new doc fs fs' f part cs cs x end can next walks
    (gains can.pieces can.weight can.held) (column_after-snoc 0 can.pieces (Fee k))

-- a choice
choice_walks : {N : Type 0} (doc : N → Doc) (f : Frame N) (a b : N) (c : ℕ) (cs rest : List Dir) (dir : Dir) → doc f.node ≡ Choice (doc a) (doc b) → cs ≡ dir ∷ rest →
    walk_frame doc f c cs ≡ and_walked (walked [] c 1 rest) (walk_core (simple (doc (side_of dir a b)) f.flat) c f.indentation rest)
unfolding simple
choice_walks doc f a b c cs rest Left is first =
    ap (λ l. walk_frame doc f c l) first
    ∙ frame_walks doc f (Choice (doc a) (doc b)) c (Left ∷ rest) is
    ∙ left_walked (simple (doc a) f.flat) (simple (doc b) f.flat) c f.indentation rest
choice_walks doc f a b c cs rest Right is first =
    ap (λ l. walk_frame doc f c l) first
    ∙ frame_walks doc f (Choice (doc a) (doc b)) c (Right ∷ rest) is
    ∙ right_walked (simple (doc a) f.flat) (simple (doc b) f.flat) c f.indentation rest

choice_stops : {N : Type 0} (doc : N → Doc) (f : Frame N) (a b : N) (c : ℕ) → doc f.node ≡ Choice (doc a) (doc b) → walk_frame doc f c [] ≡ None
unfolding simple
choice_stops doc f a b c is =
    frame_walks doc f (Choice (doc a) (doc b)) c [] is
    ∙ choice_unwalked (simple (doc a) f.flat) (simple (doc b) f.flat) c f.indentation

pub choice_has_more : {N : Type 0} (holds : List Piece → ℕ → Type 0) (doc : N → Doc) (fs : List (Frame N)) (f : Frame N) (a b : N) (cs : List Dir) (end : Ending) →
    doc f.node ≡ Choice (doc a) (doc b) → CanGoOn holds doc (fs ++ f ∷ []) cs end → 0 < length cs
choice_has_more holds doc fs f a b [] end is can = absurd (no_ending holds doc fs f [] end can (choice_stops doc f a b (column_after 0 can.pieces) is))
choice_has_more holds doc fs f a b (dir ∷ cs) end is can = omega arith

pub choice_goes_on : {N : Type 0} (old new : List Piece → ℕ → Type 0) (doc : N → Doc) (fs fs' : List (Frame N)) (f part : Frame N) (a b s : N) (cs rest : List Dir) (dir : Dir) →
    doc f.node ≡ Choice (doc a) (doc b) → cs ≡ dir ∷ rest → s ≡ side_of dir a b → fs' ≡ fs ++ part ∷ [] → part.node ≡ s → part.indentation ≡ f.indentation → part.flat ≡ f.flat → AddsChoice old new →
    (end : Ending) → CanGoOn old doc (fs ++ f ∷ []) cs end → CanGoOn new doc fs' rest end
choice_goes_on old new doc fs fs' f part a b s cs rest dir is first side next at indented so gains end can =
    let c : ℕ = column_after 0 can.pieces in
    side_goes_on old new doc fs fs' f part cs rest end can next gains
    (choice_walks doc f a b c cs rest dir is first
    ∙ ap (λ o. and_walked (walked [] c 1 rest) o) (sym (part_walks doc part (side_of dir a b) f.indentation f.flat c rest (at ∙ side) indented so)))

pub choice_too_long : {N : Type 0} (holds : List Piece → ℕ → Type 0) (doc : N → Doc) (fs : List (Frame N)) (f : Frame N) (a b : N) (cs rest : List Dir) (dir : Dir) →
    doc f.node ≡ Choice (doc a) (doc b) → cs ≡ dir ∷ rest → OverfillsByChoice holds → (end : Ending) → CanGoOn holds doc (fs ++ f ∷ []) cs end → IsPastLimit end
choice_too_long holds doc fs f a b cs rest dir is first passes end can =
    let c : ℕ = column_after 0 can.pieces in
    side_too_long holds doc fs f cs rest (walk_core (simple (doc (side_of dir a b)) f.flat) c f.indentation rest) end can passes
    (choice_walks doc f a b c cs rest dir is first)

side_smaller : {N : Type 0} (doc : N → Doc) (a b : N) (dir : Dir) → size_of (doc (side_of dir a b)) < size_of (Choice (doc a) (doc b))
unfolding size_of
side_smaller doc a b Left = omega arith
side_smaller doc a b Right = omega arith

pub choice_fewer : {N : Type 0} (doc : N → Doc) (fs fs' : List (Frame N)) (f part : Frame N) (a b s : N) (dir : Dir) → doc f.node ≡ Choice (doc a) (doc b) →
    s ≡ side_of dir a b → fs' ≡ fs ++ part ∷ [] → part.node ≡ s → turns_of doc fs' < turns_of doc (fs ++ f ∷ [])
choice_fewer doc fs fs' f part a b s dir is side next at =
    fewer_of_one doc fs fs' f part (side_of dir a b) (Choice (doc a) (doc b)) next (at ∙ side) is (side_smaller doc a b dir)

-- a side alone
only_walks : {N : Type 0} (holds : List Piece → ℕ → Type 0) (doc : N → Doc) (fs : List (Frame N)) (f : Frame N) (a : N) (cs rest : List Dir) (dir first : Dir) (end : Ending) →
    doc f.node ≡ Only dir (doc a) → cs ≡ first ∷ rest → (can : CanGoOn holds doc (fs ++ f ∷ []) cs end) →
    walk_frame doc f (column_after 0 can.pieces) cs
    ≡ and_walked (walked [] (column_after 0 can.pieces) 1 rest) (walk_core (simple (doc a) f.flat) (column_after 0 can.pieces) f.indentation rest)
unfolding simple
only_walks holds doc fs f a cs rest dir first end is begins can =
    let c : ℕ = column_after 0 can.pieces in
    let known =
    ap (λ l. walk_frame doc f c l) begins ∙ frame_walks doc f (Only dir (doc a)) c (first ∷ rest) is in
    elim (only_walked dir first (simple (doc a) f.flat) c f.indentation rest) [
      | inl h ↦ known ∙ h
      | inr h ↦ absurd (no_ending holds doc fs f cs end can (known ∙ h))
    ]

only_stops : {N : Type 0} (doc : N → Doc) (f : Frame N) (a : N) (c : ℕ) (dir : Dir) → doc f.node ≡ Only dir (doc a) → walk_frame doc f c [] ≡ None
unfolding simple
only_stops doc f a c dir is =
    frame_walks doc f (Only dir (doc a)) c [] is ∙ only_unwalked dir (simple (doc a) f.flat) c f.indentation

pub only_has_more : {N : Type 0} (holds : List Piece → ℕ → Type 0) (doc : N → Doc) (fs : List (Frame N)) (f : Frame N) (a : N) (cs : List Dir) (dir : Dir) (end : Ending) →
    doc f.node ≡ Only dir (doc a) → CanGoOn holds doc (fs ++ f ∷ []) cs end → 0 < length cs
only_has_more holds doc fs f a [] dir end is can = absurd (no_ending holds doc fs f [] end can (only_stops doc f a (column_after 0 can.pieces) dir is))
only_has_more holds doc fs f a (first ∷ cs) dir end is can = omega arith

pub only_goes_on : {N : Type 0} (old new : List Piece → ℕ → Type 0) (doc : N → Doc) (fs fs' : List (Frame N)) (f part : Frame N) (a : N) (cs rest : List Dir) (dir first : Dir) →
    doc f.node ≡ Only dir (doc a) → cs ≡ first ∷ rest → fs' ≡ fs ++ part ∷ [] → part.node ≡ a → part.indentation ≡ f.indentation → part.flat ≡ f.flat → AddsChoice old new →
    (end : Ending) → CanGoOn old doc (fs ++ f ∷ []) cs end → CanGoOn new doc fs' rest end
only_goes_on old new doc fs fs' f part a cs rest dir first is begins next at indented so gains end can =
    let c : ℕ = column_after 0 can.pieces in
    side_goes_on old new doc fs fs' f part cs rest end can next gains
    (only_walks old doc fs f a cs rest dir first end is begins can
    ∙ ap (λ o. and_walked (walked [] c 1 rest) o) (sym (part_walks doc part a f.indentation f.flat c rest at indented so)))

pub only_too_long : {N : Type 0} (holds : List Piece → ℕ → Type 0) (doc : N → Doc) (fs : List (Frame N)) (f : Frame N) (a : N) (cs rest : List Dir) (dir first : Dir) →
    doc f.node ≡ Only dir (doc a) → cs ≡ first ∷ rest → OverfillsByChoice holds → (end : Ending) → CanGoOn holds doc (fs ++ f ∷ []) cs end → IsPastLimit end
only_too_long holds doc fs f a cs rest dir first is begins passes end can =
    let c : ℕ = column_after 0 can.pieces in
    side_too_long holds doc fs f cs rest (walk_core (simple (doc a) f.flat) c f.indentation rest) end can passes
    (only_walks holds doc fs f a cs rest dir first end is begins can)
