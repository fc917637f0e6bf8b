-- The same items have the same trees.
use Rattle.std.proofs.Common.{◌≡◌, ℕ, zero, suc, List, [], ◌∷◌, length, map, refl, sym, ap, ◌∙◌}
use Rattle.std.proofs.lemmas.List.{length-map}
use Rattle.rf_base_grammar.specs.Token.{Token, unplaced, normal}
use Rattle.rf_base_tree.specs.Trees.{Forest, kind_at, spelling_at}
use Rattle.rf_base_tree.specs.Formed.{Treed}
use Rattle.rf_base_tree.proofs.Alike.{Alike, alike-back, read_alike, Treed-alike}

-- the same items are of the same kinds
kind_at-unplaced : (ts : List Token) (n : ℕ) → kind_at (map unplaced ts) n ≡ kind_at ts n
kind_at-unplaced [] n = refl
kind_at-unplaced (t ∷ ts) zero = refl
kind_at-unplaced (t ∷ ts) (suc n) = kind_at-unplaced ts n

-- and are spelled alike
pub spelling_at-unplaced : (ts : List Token) (n : ℕ) → spelling_at (map unplaced ts) n ≡ spelling_at ts n
spelling_at-unplaced [] n = refl
spelling_at-unplaced (t ∷ ts) zero = refl
spelling_at-unplaced (t ∷ ts) (suc n) = spelling_at-unplaced ts n

-- and so they are alike
same_alike : (ts us : List Token) → map unplaced us ≡ map unplaced ts → Alike ts us
same_alike ts us e = record {
  kinds = λ n. sym (kind_at-unplaced us n) ∙ ap (λ xs. kind_at xs n) e ∙ kind_at-unplaced ts n;
  spellings = λ n. sym (spelling_at-unplaced us n) ∙ ap (λ xs. spelling_at xs n) e ∙ spelling_at-unplaced ts n;
  lengths = sym (length-map us unplaced) ∙ ap length e ∙ length-map ts unplaced;
}

-- the same items have the same trees
pub Treed-same : (ts back : List Token) (trees : Forest) (max : ℕ) → Treed ts trees →
    map unplaced back ≡ map unplaced (normal max ts) → Treed back trees
Treed-same ts back trees max h e =
    Treed-alike (normal max ts) back trees (same_alike (normal max ts) back e)
    (Treed-alike ts (normal max ts) trees (alike-back (normal max ts) ts (read_alike ts max)) h)
