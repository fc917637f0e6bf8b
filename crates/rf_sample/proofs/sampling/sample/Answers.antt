-- Form by form.
use Rattle.std.proofs.Common.{◌≡◌, ℕ, suc, ◌+◌, ◌-◌, ◌<◌, ◌≤◌, List, [], ◌++◌, sym, ap, ◌∙◌, append_assoc, append-nil, string_bytes, codes, refl, arith}
use Rattle.rf_sample.specs.Sample.{form, forms_from, sample}
use Rattle.rf_sample.proofs.sampling.sample.Goals as goal

-- one more form, and those behind it
turn : (k n : ℕ) → k < n → forms_from k (n - k) ≡ codes "\n" ++ (form k ++ forms_from (k + 1) (n - (k + 1)))
unfolding forms_from
turn k n below = let e : n - k ≡ suc (n - (k + 1)) = omega arith in rw e

-- no form is left
end : (k n : ℕ) → n ≤ k → forms_from k (n - k) ≡ []
unfolding forms_from
end k n over = let e : n - k ≡ 0 = omega arith in rw e

-- the text grows by a line end and the form
grown : (old mid new body rest whole : List ℕ) → mid ≡ old ++ codes "\n" → new ≡ mid ++ body → old ++ (codes "\n" ++ (body ++ rest)) ≡ whole → new ++ rest ≡ whole
grown old mid new body rest whole first second all = rw (second, first, append_assoc old (codes "\n") body, append_assoc old (codes "\n" ++ body) rest, append_assoc (codes "\n") body rest) all

pub loop-k-init : goal.loop-k-init
unfolding sample
loop-k-init c =
    let all : c.args.n - 0 ≡ c.args.n = omega arith in
    rw (c.in_ok-text.ensures.ok, all) refl

pub loop-k-preserved : goal.loop-k-preserved
loop-k-preserved c =
    grown _ _ _ (form c.loop-k.k) _ _ c.in_ok-push_str.ensures.bytes
    c.in_ok-form.ensures
    (sym (ap (λ more. string_bytes c.loop-k.text ++ more) (turn c.loop-k.k c.args.n c.loop-k-test.true)) ∙ c.loop-k.invariant)

pub returns : goal.returns
returns c = sym (append-nil _) ∙ sym (ap (λ more. string_bytes c.loop-k.text ++ more) (end c.loop-k.k c.args.n c.loop-k-test.false)) ∙ c.loop-k.invariant
