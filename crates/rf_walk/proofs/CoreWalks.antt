-- Walks over the cores of documents, by the kinds of the documents.
use Rattle.std.proofs.Common.{◌≡◌, ℕ, ◌⊎◌, inl, inr, Bool, true, false, List, [], ◌∷◌, Option, None, Some, sym, refl}
use Rattle.std.specs.Option.{option_map}
use Rattle.rf_base_document.specs.declared.directions.Dir.{Dir}
use Rattle.rf_base_document.specs.declared.directions.Dir.TheVariants.{Left, Right}
use Rattle.rf_base_document.specs.Document.{Doc, Nest, Align, Reset, Only, Charge}
use Rattle.rf_base_document.specs.Render.{Break, Fee, piece_end}
use Rattle.rf_base_document.specs.Simple.{simple_newline, simple_hard, simple_concat, simple_choice}
use Rattle.rf_walk.specs.Walked.{Walked, walked, and_walked, then_walked, deeper, walk, walk_core, newline_piece}

-- a newline's piece, flat or not
pub newline_walked : (flat : Bool) (c i : ℕ) (cs : List Dir) →
    walk_core (Some (simple_newline flat)) c i cs ≡ Some (walked (newline_piece flat i c ∷ []) (piece_end c (newline_piece flat i c)) 1 cs)
unfolding walk
newline_walked true c i cs = refl
newline_walked false c i cs = refl

-- a hard newline's break, or no walk where it is flat
pub hard_walked : (flat : Bool) (c i : ℕ) (cs : List Dir) →
    (walk_core (simple_hard flat) c i cs ≡ Some (walked (Break i ∷ []) i 1 cs)) ⊎ (walk_core (simple_hard flat) c i cs ≡ None)
unfolding walk
hard_walked true c i cs = inr refl
hard_walked false c i cs = inl refl

-- one part and then the other
then_none : (o : Option Walked) → then_walked o (λ last left. None) ≡ None
then_none None = refl
then_none (Some w) = refl

pub concat_walked : (o p : Option Doc) (c i : ℕ) (cs : List Dir) →
    walk_core (simple_concat o p) c i cs ≡ then_walked (walk_core o c i cs) (λ last left. walk_core p last i left)
unfolding walk
concat_walked (Some a) None c i cs = sym (then_none (walk a c i cs))
concat_walked _ _ c i cs = refl

-- a part in its place
pub nest_walked : (o : Option Doc) (n c i : ℕ) (cs : List Dir) → walk_core (option_map (Nest n) o) c i cs ≡ walk_core o c (deeper i n) cs
unfolding walk
nest_walked None n c i cs = refl
nest_walked (Some a) n c i cs = refl

pub align_walked : (o : Option Doc) (c i : ℕ) (cs : List Dir) → walk_core (option_map Align o) c i cs ≡ walk_core o c c cs
unfolding walk
align_walked None c i cs = refl
align_walked (Some a) c i cs = refl

pub reset_walked : (o : Option Doc) (c i : ℕ) (cs : List Dir) → walk_core (option_map Reset o) c i cs ≡ walk_core o c 0 cs
unfolding walk
reset_walked None c i cs = refl
reset_walked (Some a) c i cs = refl

-- a charge and then its part
pub charge_walked : (o : Option Doc) (k c i : ℕ) (cs : List Dir) →
    walk_core (option_map (Charge k) o) c i cs ≡ and_walked (walked (Fee k ∷ []) c 0 cs) (walk_core o c i cs)
unfolding walk
charge_walked None k c i cs = refl
charge_walked (Some a) k c i cs = refl

-- a choice and then its side, also where the other side has no core
pub left_walked : (o p : Option Doc) (c i : ℕ) (rest : List Dir) →
    walk_core (simple_choice o p) c i (Left ∷ rest) ≡ and_walked (walked [] c 1 rest) (walk_core o c i rest)
unfolding walk
left_walked None None c i rest = refl
left_walked None (Some b) c i rest = refl
left_walked (Some a) None c i rest = refl
left_walked (Some a) (Some b) c i rest = refl

pub right_walked : (o p : Option Doc) (c i : ℕ) (rest : List Dir) →
    walk_core (simple_choice o p) c i (Right ∷ rest) ≡ and_walked (walked [] c 1 rest) (walk_core p c i rest)
unfolding walk
right_walked None None c i rest = refl
right_walked None (Some b) c i rest = refl
right_walked (Some a) None c i rest = refl
right_walked (Some a) (Some b) c i rest = refl

pub choice_unwalked : (o p : Option Doc) (c i : ℕ) → walk_core (simple_choice o p) c i [] ≡ None
unfolding walk
choice_unwalked None None c i = refl
choice_unwalked None (Some b) c i = refl
choice_unwalked (Some a) None c i = refl
choice_unwalked (Some a) (Some b) c i = refl

-- a side alone: its direction is the first choice, or there is no walk
pub only_walked : (dir first : Dir) (o : Option Doc) (c i : ℕ) (rest : List Dir) →
    (walk_core (option_map (Only dir) o) c i (first ∷ rest) ≡ and_walked (walked [] c 1 rest) (walk_core o c i rest))
    ⊎ (walk_core (option_map (Only dir) o) c i (first ∷ rest) ≡ None)
unfolding walk
only_walked dir first None c i rest = inr refl
only_walked Left Left (Some a) c i rest = inl refl
only_walked Left Right (Some a) c i rest = inr refl
only_walked Right Left (Some a) c i rest = inr refl
only_walked Right Right (Some a) c i rest = inl refl

pub only_unwalked : (dir : Dir) (o : Option Doc) (c i : ℕ) → walk_core (option_map (Only dir) o) c i [] ≡ None
unfolding walk
only_unwalked dir None c i = refl
only_unwalked Left (Some a) c i = refl
only_unwalked Right (Some a) c i = refl
