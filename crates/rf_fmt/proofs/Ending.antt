-- Numbers of statuses.
use Rattle.std.proofs.Common.{◌≡◌, ◌∙◌, ap, inl, inr, refl, sym, ℕ, ◌⊎◌}
use Rattle.std.specs.Prelude.{if◌then◌else◌, ◌==◌}
use Rattle.rf_top.specs.declared.status.Status.{Status}
use Rattle.rf_top.specs.declared.status.Status.TheVariants as status
use Rattle.rf_fmt.specs.Ending.{number_of}

-- the number of one of two statuses
pub number_of_either : (ended a b : Status) (n : ℕ) → n ≡ number_of ended → (ended ≡ a) ⊎ (ended ≡ b) → (n ≡ number_of a) ⊎ (n ≡ number_of b)
number_of_either ended a b n is (inl same) = inl (is ∙ ap number_of same)
number_of_either ended a b n is (inr same) = inr (is ∙ ap number_of same)

-- the status of a number
abbrev status_at : ℕ → Status
status_at n =
    if n == 0 then status.Fine else if n == 1 then status.Differs else if n == 2 then status.SourceRefused
    else if n == 3 then status.StyleRefused else if n == 4 then status.WordsRefused else if n == 5 then status.ReadFault
    else if n == 6 then status.WriteFault else if n == 7 then status.NoMemory else status.TooLong

status_at_number : (ended : Status) → status_at (number_of ended) ≡ ended
status_at_number status.Fine = refl
status_at_number ended = refl

-- a number is that of one status
pub number_is : (ended other : Status) (n : ℕ) → n ≡ number_of ended → n ≡ number_of other → ended ≡ other
number_is ended other n is also =
    sym (status_at_number ended) ∙ ap status_at (sym is ∙ also) ∙ status_at_number other

pub number_is_either : (ended a b : Status) (n : ℕ) → n ≡ number_of ended → (n ≡ number_of a) ⊎ (n ≡ number_of b) → (ended ≡ a) ⊎ (ended ≡ b)
number_is_either ended a b n is (inl also) = inl (number_is ended a n is also)
number_is_either ended a b n is (inr also) = inr (number_is ended b n is also)
