-- Pieces that are told one after another.
use Rattle.std.proofs.Common.{◌≡◌, ℕ, ◌+◌, ◌<◌, List, [], ◌∷◌, ◌++◌, length, take, drop, get_or, map, Option, append-nil, length-append, ap, sym, ◌∙◌, subst, arith}
use Rattle.std.specs.Borrow.{Bor}
use Rattle.std.specs.List.{concat}
use Rattle.std.specs.Io.KnownBytes.{Appends}
use Rattle.std.proofs.KnownBytes.{Appends-trans}
use Rattle.std.proofs.Math.Seq.{take-append-add}
use Rattle.std.proofs.lemmas.List.{drop_more, map-append, map_more, take-append-drop, take-append-le}
use Rattle.std.proofs.lemmas.List.Folds.{concat-append}
use Rattle.rf_edges.specs.Bytes.{AppendsPrefix}
use Rattle.rf_top.specs.Lines.{line_of}
use Rattle.rf_top.specs.Running.{Tells}
use Rattle.rf_top.specs.declared.stops.Stop.{Stop}

-- the bytes of the pieces, in order
abbrev pub joined : List (Bor (List ℕ)) → List ℕ
joined pieces = concat (map (λ piece. piece.now) pieces)

joined-append : (ps qs : List (Bor (List ℕ))) → joined (ps ++ qs) ≡ joined ps ++ joined qs
joined-append ps qs = ap concat (map-append (λ piece. piece.now) ps qs) ∙ concat-append (map (λ piece. piece.now) ps) (map (λ piece. piece.now) qs)

-- one more
pub joined_more : (ps : List (Bor (List ℕ))) (i : ℕ) (d : Bor (List ℕ)) → i < length ps → joined (take (i + 1) ps) ≡ joined (take i ps) ++ (get_or ps i d).now
joined_more ps i d lt =
    ap concat (map_more (λ piece. piece.now) ps i d lt) ∙ concat-append (map (λ piece. piece.now) (take i ps)) ((get_or ps i d).now ∷ [])
    ∙ ap (λ l. joined (take i ps) ++ l) (append-nil (get_or ps i d).now)

-- all of them, where one begins
joined_at : (ps : List (Bor (List ℕ))) (i : ℕ) (d : Bor (List ℕ)) → i < length ps →
    joined ps ≡ joined (take i ps) ++ ((get_or ps i d).now ++ joined (drop (i + 1) ps))
joined_at ps i d lt =
    ap joined (sym (take-append-drop i ps)) ∙ joined-append (take i ps) (drop i ps)
    ∙ ap (λ l. joined (take i ps) ++ joined l) (drop_more ps i d lt)

-- a prefix of one piece behind those before it is a prefix of all
pub joined_short : (old mid new : Option (List ℕ)) (ps : List (Bor (List ℕ))) (i : ℕ) (d : Bor (List ℕ)) → i < length ps → Appends old mid (joined (take i ps)) →
    AppendsPrefix mid new (get_or ps i d).now → AppendsPrefix old new (joined ps)
joined_short old mid new ps i d lt before prefix =
    let piece = (get_or ps i d).now in
    let front = joined (take i ps) in
    let rest = joined (drop (i + 1) ps) in
    let cut : take (length front + prefix.0) (joined ps) ≡ front ++ take prefix.0 piece =
    ap (take (length front + prefix.0)) (joined_at ps i d lt) ∙ take-append-add front (piece ++ rest) prefix.0
    ∙ ap (λ l. front ++ l) (take-append-le prefix.0 piece rest prefix.1) in
    let long : length (joined ps) ≡ length front + length (piece ++ rest) = ap length (joined_at ps i d lt) ∙ length-append front (piece ++ rest) in (
      length front + prefix.0,
      omega (arith, long, length-append piece rest, prefix.1),
      subst (Appends old new) (sym cut) (Appends-trans old mid new front (take prefix.0 piece) before prefix.2),
    )

-- what was told is the line of this reason
pub says : (old new : Option (List ℕ)) (before after : ℕ) (asked is : Stop) (bytes : List ℕ) → asked ≡ is → bytes ≡ line_of is ++ 10 ∷ [] → Tells old new before after bytes →
    Tells old new before after (line_of asked ++ 10 ∷ [])
says old new before after asked is bytes same line h =
    subst (λ (s : Stop). Tells old new before after (line_of s ++ 10 ∷ [])) (sym same) (subst (Tells old new before after) line h)
