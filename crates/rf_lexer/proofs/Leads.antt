-- One item more.
use Rattle.std.proofs.Common.{◌≡◌, ℕ, ◌+◌, List, [], ◌∷◌, ◌++◌, refl, sym, subst}
use Rattle.rf_base_grammar.specs.Characters.{byte_len}
use Rattle.rf_base_grammar.specs.Token.{Token}
use Rattle.rf_base_grammar.specs.Itemised.{Begins, Leads, end_of, kinds_of}
use Rattle.rf_base_grammar.specs.declared.kinds.Kind.{Kind}

pub Leads-push : (before : List Kind) (offset : ℕ) (text : List ℕ) (ts : List Token) (rest : List ℕ) (t : Token) (behind : List ℕ) → Leads before offset text ts rest → Begins (kinds_of before ts) (end_of offset ts) rest t behind → Leads before offset text (ts ++ t ∷ []) behind
Leads-push before offset text [] rest t behind leads begins =
    (behind, subst (λ x. Begins before offset x t behind) (sym leads) begins, refl)
Leads-push before offset text (u ∷ ts) rest t behind leads begins =
    (leads.0, leads.1, Leads-push (u.kind ∷ before) (u.start + byte_len u.spelling) leads.0 ts rest t behind leads.2 begins)

pub end_of-push : (offset : ℕ) (ts : List Token) (t : Token) → end_of offset (ts ++ t ∷ []) ≡ t.start + byte_len t.spelling
end_of-push offset [] t = refl
end_of-push offset (u ∷ ts) t = end_of-push (u.start + byte_len u.spelling) ts t

pub kinds_of-push : (before : List Kind) (ts : List Token) (t : Token) → kinds_of before (ts ++ t ∷ []) ≡ t.kind ∷ kinds_of before ts
kinds_of-push before [] t = refl
kinds_of-push before (u ∷ ts) t = kinds_of-push (u.kind ∷ before) ts t
