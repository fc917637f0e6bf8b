-- How rows grow.
use Rattle.std.proofs.Common.{◌≡◌, ℕ, ◌+◌, ◌-◌, ◌*◌, ◌≤◌, List, [], ◌∷◌, ◌++◌, length, take, ap, ◌∙◌, arith}
use Rattle.std.proofs.lemmas.List.{length-append, length-take-le}
use Rattle.rf_rows.specs.declared.cells.Cell.{Cell}
use Rattle.rf_rows.specs.Sizes.{cells_size}

-- a cell more takes 4 nodes for each of its pieces, and 24
pub cells_size-push : (cs : List Cell) (c : Cell) → cells_size (cs ++ c ∷ []) ≡ cells_size cs + (4 * c.count + 24)
unfolding cells_size
cells_size-push [] c = omega arith
cells_size-push (d ∷ cs) c = omega (arith, cells_size-push cs c)

-- pieces from a height on, as a cell, and a piece in their place take 28 more
pub closed_grows : {X : Type 0} (cs ds : List Cell) (old new : List X) (height : ℕ) (c : Cell) (x : X) → height ≤ length old → c.count ≡ length old - height → ds ≡ cs ++ c ∷ [] → new ≡ take height old ++ x ∷ [] → cells_size ds + 4 * length new ≤ (cells_size cs + 4 * length old) + 28
closed_grows {X} cs ds old new height c x within count one put =
    let more = ap (λ (es : List Cell). cells_size es) one ∙ cells_size-push cs c in
    let high = ap (λ (xs : List X). length xs) put ∙ length-append (take height old) (x ∷ []) in
    omega (arith, more, high, within, count, length-take-le height old within)

-- no cell and no piece take no node
pub none_size : {X : Type 0} (cs : List Cell) (stack : List X) → cs ≡ [] → stack ≡ [] → cells_size cs + 4 * length stack ≡ 0
unfolding cells_size
none_size {X} cs stack e f = ap (λ (ds : List Cell). cells_size ds + 4 * length stack) e ∙ ap (λ (xs : List X). cells_size [] + 4 * length xs) f
