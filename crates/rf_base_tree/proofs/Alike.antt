-- Items that are alike have the same trees: items of the same kinds, spelled alike, and as many.
use Rattle.std.proofs.Common.{◌≡◌, ℕ, zero, suc, Bool, true, List, [], ◌∷◌, length, refl, sym, ap, ◌∙◌, subst}
use Rattle.std.specs.Prelude.{codes}
use Rattle.std.specs.List.{range_with_len}
use Rattle.rf_base_grammar.specs.Characters.{BeginsWith}
use Rattle.rf_base_grammar.specs.Token.{Token, opens, settled, normal}
use Rattle.rf_base_grammar.specs.declared.kinds.Kind.{Kind}
use Rattle.rf_base_tree.specs.Trees.{Tree, Leaf, Point, Comment, Prefixed, DatumComment, Listed, Forest, Empty, Then, kind_at, spelling_at}
use Rattle.rf_base_tree.specs.Formed.{KindPasses, IsFormed, AreFormed, Treed}

-- what settling leaves: the kinds, the spellings and the number of the items
kind_at-settled : (bare : Bool) (most : ℕ) (ts : List Token) (n : ℕ) →
    kind_at (settled bare most ts) n ≡ kind_at ts n
kind_at-settled bare most [] n = refl
kind_at-settled bare most (t ∷ ts) zero = refl
kind_at-settled bare most (t ∷ ts) (suc n) = kind_at-settled (opens t.kind) most ts n

spelling_at-settled : (bare : Bool) (most : ℕ) (ts : List Token) (n : ℕ) →
    spelling_at (settled bare most ts) n ≡ spelling_at ts n
spelling_at-settled bare most [] n = refl
spelling_at-settled bare most (t ∷ ts) zero = refl
spelling_at-settled bare most (t ∷ ts) (suc n) = spelling_at-settled (opens t.kind) most ts n

pub length-settled : (bare : Bool) (most : ℕ) (ts : List Token) → length (settled bare most ts) ≡ length ts
length-settled bare most [] = refl
length-settled bare most (t ∷ ts) = ap suc (length-settled (opens t.kind) most ts)

-- the items of us are as many as those of ts, of their kinds, and spelled like them
pub record Alike (ts us : List Token) : Type 0 where
  pub kinds : (n : ℕ) → kind_at us n ≡ kind_at ts n
  pub spellings : (n : ℕ) → spelling_at us n ≡ spelling_at ts n
  pub lengths : length us ≡ length ts

pub alike-back : (ts us : List Token) → Alike ts us → Alike us ts
alike-back ts us a = record {
  kinds = λ n. sym (a.kinds n);
  spellings = λ n. sym (a.spellings n);
  lengths = sym a.lengths;
}

-- items as they were read are alike to what they are as they are settled
pub read_alike : (ts : List Token) (most : ℕ) → Alike (normal most ts) ts
read_alike ts most = record {
  kinds = λ n. sym (kind_at-settled true most ts n);
  spellings = λ n. sym (spelling_at-settled true most ts n);
  lengths = sym (length-settled true most ts);
}

-- what passes by its kind and what begins with a hash sign do so wherever the items are alike
pub passes_alike : (test : Kind → Bool) (ts us : List Token) (n : ℕ) → Alike ts us → KindPasses test ts n →
    KindPasses test us n
passes_alike test ts us n a h = (h.0, a.kinds n ∙ h.1, h.2)

pub begins_alike : (ts us : List Token) (n : ℕ) → Alike ts us → BeginsWith (codes "#") (spelling_at us n) →
    BeginsWith (codes "#") (spelling_at ts n)
begins_alike ts us n a h = subst (λ (s : List ℕ). BeginsWith (codes "#") s) (a.spellings n) h

-- trees are formed wherever the items are alike
mutual
  unfolding IsFormed AreFormed

  formed_alike : (ts us : List Token) (t : Tree) → Alike ts us → IsFormed ts t → IsFormed us t
  formed_alike ts us (Leaf item) a h = passes_alike _ ts us item a h
  formed_alike ts us (Point item) a h = a.kinds item ∙ h
  formed_alike ts us (Comment item) a h = passes_alike _ ts us item a h
  formed_alike ts us (Prefixed item lead inner) a h =
      (a.kinds item ∙ h.0, forest_alike ts us lead a h.1, h.2, formed_alike ts us inner a h.3, h.4)
  formed_alike ts us (DatumComment item lead inner) a h =
      (a.kinds item ∙ h.0, forest_alike ts us lead a h.1, h.2, formed_alike ts us inner a h.3, h.4)
  formed_alike ts us (Listed opener entries closer) a h = (
    h.0,
    a.kinds opener ∙ h.1,
    forest_alike ts us entries a h.2,
    a.kinds closer ∙ h.3,
    h.4,
    λ b. h.5 (begins_alike ts us opener a b),
  )

  pub forest_alike : (ts us : List Token) (f : Forest) → Alike ts us → AreFormed ts f → AreFormed us f
  forest_alike ts us Empty a h = tt
  forest_alike ts us (Then t f) a h = (formed_alike ts us t a h.0, forest_alike ts us f a h.1)

pub Treed-alike : (ts us : List Token) (trees : Forest) → Alike ts us → Treed ts trees → Treed us trees
Treed-alike ts us trees a h = record {
  items_are = h.items_are ∙ sym (ap (range_with_len 0) a.lengths);
  formed = forest_alike ts us trees a h.formed;
  dotless = h.dotless;
  shallow = h.shallow;
}
