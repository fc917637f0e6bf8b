-- An addition that reflects the order of values reflects that of what layouts cost.
use Rattle.rf_base_cost.specs.Cost.{Costs, Lawful}
use Rattle.rf_base_cost.specs.Reflecting.{ReflectsOrder, ReflectsOrderUpTo}
use Rattle.rf_base_cost.proofs.Sums.{cost_is_value}
use Rattle.std.proofs.Common.{ℕ}

pub reflects_all : {C : Type 0} (costs : Costs C) (n : ℕ) → Lawful costs → ReflectsOrder costs →
    ReflectsOrderUpTo costs n
reflects_all costs n laws reflects pieces others more a b c p q r short shorter e f g =
    reflects a b c (cost_is_value costs pieces a laws p e) (cost_is_value costs others b laws q f)
    (cost_is_value costs more c laws r g)
