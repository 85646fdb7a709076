-- There is no sign excess unless some network has a negative loss.
use Rattle.std.proofs.Common.{◌≡◌, ℕ, ℤ, pos, negsuc, ◌+ℤ◌, ◌-ℤ◌, ◌≤ℤ◌, ⊎_elim, arith}
use Rattle.std.proofs.lemmas.Int.{ints}
use Rattle.terms.specs.declared.channels.Channel.TheVariants.{C, G}
use Rattle.points.specs.Rules.{Limited}
use Rattle.shares.specs.Rules.{Charges, Meaning}
use Rattle.shares.specs.Trees.{member_sum, monitor_sum}
use Rattle.shares.specs.Hours.{Hour, InRange, charge, charges, loss, excess_of, excess}
use Rattle.shares.specs.Laws.{NoExcess}
use Rattle.shares.proofs.Counts.{members_limit, monitors_limit}
use Rattle.shares.proofs.Trees.{network_none}

none_by : (l : ℤ) (c : ℤ × ℤ) → pos 0 ≤ℤ l → Charges l c → (c.0 +ℤ c.1) -ℤ l ≡ pos 0
none_by (pos n) c h e = ⊎_elim
    (λ d. let a = d.0 in ⊎_elim (λ b. omega (arith, ints)) (λ b. omega (arith, ints)) d.1)
    (λ d. let a = d.0 in ⊎_elim (λ b. omega (arith, ints)) (λ b. omega (arith, ints)) d.1)
    e
none_by (negsuc n) c h e = absurd h.le

-- what the rule gives a network is charged by its loss
pub charged_by : (x : Hour) → Limited x.points → Meaning x.rule → InRange x → (m : ℕ) → Charges (loss x m) (charges x m)
unfolding charges loss
charged_by x limited rule range m =
    let ps = x.points in
    rule (monitor_sum ps (x.values C) m) (monitor_sum ps (x.values G) m) (member_sum ps (x.values C) m) (member_sum ps (x.values G) m)
    (monitors_limit ps limited (x.values C) (range C) m) (monitors_limit ps limited (x.values G) (range G) m)
    (members_limit ps limited (x.values C) (range C) m) (members_limit ps limited (x.values G) (range G) m)

pub no_excess : (x : Hour) → Limited x.points → Meaning x.rule → InRange x → NoExcess x
unfolding excess excess_of charge
no_excess x limited rule range least =
    network_none x.points (excess_of x) (λ m e. none_by (loss x m) (charges x m) (least m e) (charged_by x limited rule range m))
