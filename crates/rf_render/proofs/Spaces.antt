-- Spaces written in blocks.
use Rattle.std.proofs.Common.{◌≡◌, ℕ, zero, suc, ◌+◌, ◌-◌, ◌<◌, ◌≤◌, List, ◌∷◌, ◌++◌, length, take, ap, sym, subst, ◌∙◌, append_assoc, cond, Result, Ok, Err, is_ok, OnOk, lit<, arith}
use Rattle.std.proofs.Math.ListN.{replicate}
use Rattle.std.specs.Str.{IsAscii, IsCharBoundary}
use Rattle.std.proofs.lemmas.List.{length-replicate, take-replicate}
use Rattle.std.proofs.lemmas.Str.{IsCharBoundary-from_ascii}

-- spaces are ASCII
pub spaces_ascii : (n : ℕ) → IsAscii (replicate n 32)
spaces_ascii (suc n) (suc i) = spaces_ascii n i
spaces_ascii _ _ = lit< tt

-- the length of some spaces
pub spaces_length : (bs : List ℕ) (n : ℕ) → bs ≡ replicate n 32 → length bs ≡ n
spaces_length bs n e = ap (λ (l : List ℕ). length l) e ∙ length-replicate {A = ℕ} n 32

pub spaces_boundary : (bs : List ℕ) (n i : ℕ) → bs ≡ replicate n 32 → i ≤ n → IsCharBoundary bs i
spaces_boundary bs n i e le =
    subst (λ (l : List ℕ). IsCharBoundary l i) (sym e) (IsCharBoundary-from_ascii (replicate n 32) i (spaces_ascii n) (omega (arith, length-replicate {A = ℕ} n 32)))

pub replicate-add : (m n x : ℕ) → replicate {A = ℕ} m x ++ replicate n x ≡ replicate (m + n) x
replicate-add zero n x = let same : n ≡ 0 + n = omega arith in ap (λ k. replicate k x) same
replicate-add (suc m) n x = let same : suc (m + n) ≡ suc m + n = omega arith in ap (λ l. x ∷ l) (replicate-add m n x) ∙ ap (λ k. replicate k x) same

-- a block more is written, and the last part of a block
pub block_written : (start before after block : List ℕ) (count left : ℕ) → block ≡ replicate 64 32 → left ≤ count → length block < left →
    before ≡ start ++ replicate (count - left) 32 → after ≡ before ++ block → after ≡ start ++ replicate (count - (left - length block)) 32
block_written start before after block count left is_block some enough was is =
    let size : length block ≡ 64 = spaces_length block 64 is_block in
    let sum : count - left + 64 ≡ count - (left - length block) = omega arith in
    is ∙ ap (λ l. l ++ block) was ∙ append_assoc start (replicate (count - left) 32) block
    ∙ ap (λ l. start ++ (replicate (count - left) 32 ++ l)) is_block
    ∙ ap (λ l. start ++ l) (replicate-add (count - left) 64 32) ∙ ap (λ n. start ++ replicate n 32) sum

pub all_written : (start before after block part : List ℕ) (count left : ℕ) → block ≡ replicate 64 32 → left ≤ count → left ≤ length block →
    before ≡ start ++ replicate (count - left) 32 → part ≡ take (left - 0) block → after ≡ before ++ part → after ≡ start ++ replicate count 32
all_written start before after block part count left is_block some enough was is_part is =
    let size : length block ≡ 64 = spaces_length block 64 is_block in
    let within : left ≤ 64 = omega arith in
    let sum : count - left + left ≡ count = omega arith in
    let whole : left - 0 ≡ left = omega arith in
    is ∙ ap (λ l. l ++ part) was ∙ append_assoc start (replicate (count - left) 32) part
    ∙ ap (λ l. start ++ (replicate (count - left) 32 ++ l)) (is_part ∙ ap (λ n. take n block) whole ∙ ap (λ l. take left l) is_block ∙ take-replicate left 64 32 within)
    ∙ ap (λ l. start ++ l) (replicate-add (count - left) left 32) ∙ ap (λ n. start ++ replicate n 32) sum

-- what is so where a call answered Ok
pub on_ok_of : {T E : Type 0} (r : Result T E) (x y z : List ℕ) → x ≡ cond (is_ok r) y z → OnOk r (x ≡ y)
on_ok_of (Ok v) x y z e = e
on_ok_of (Err v) x y z e = tt
