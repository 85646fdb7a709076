-- The billed net is the root net, but for what is unborne and the sign excess.
use Rattle.std.proofs.Common.{◌≡◌, ℕ, zero, suc, Bool, true, List, length, ℤ, pos, ◌+ℤ◌, ◌-ℤ◌, refl, ap, arith}
use Rattle.std.proofs.lemmas.Int.{ints}
use Rattle.std.proofs.lemmas.Bool.{false≢true}
use Rattle.terms.specs.declared.channels.Channel.{Channel}
use Rattle.terms.specs.declared.channels.Channel.TheVariants.{C, G}
use Rattle.points.specs.Classes.{is_root, is_monitor, is_billing}
use Rattle.points.specs.Points.{class_of, joins, IsPoint}
use Rattle.points.specs.Rules.{Placed}
use Rattle.points.specs.declared.classes.Point.{Point}
use Rattle.shares.specs.Sums.{total_where, sum_where}
use Rattle.shares.specs.Trees.{over_class, over_members, over_embedded, over_networks, member_sum, monitor_sum}
use Rattle.shares.specs.Rules.{loss_of}
use Rattle.shares.specs.Carry.{ByCarryRule}
use Rattle.shares.specs.Hours.{Hour, charge, loss, borne, burden, unborne_of, excess_of, adjusted, final, root_net, billed_net, unborne, excess}
use Rattle.shares.specs.Laws.{Balanced}
use Rattle.shares.proofs.Sums.{where_sub, where_pos}
use Rattle.shares.proofs.Trees.{is_plain, class_same, class_add, class_sub, member_classes, billing_classes, network_add, network_sub, network_same, by_network, by_parent}
use Rattle.shares.proofs.Shares.{add_up}

-- the net of a point's hour values
abbrev net : Hour → ℕ → ℤ
net x p = pos (x.values C p) -ℤ pos (x.values G p)

-- the net of its adjusted values
abbrev adjusted_net : Hour → ℕ → ℤ
adjusted_net x p = adjusted x C p -ℤ adjusted x G p

embedded_sub : (ps : List Point) (p : ℕ) (f g : ℕ → ℤ) → over_embedded ps p (λ q. f q -ℤ g q) ≡ over_embedded ps p f -ℤ over_embedded ps p g
unfolding over_embedded
embedded_sub ps p f g = where_sub (length ps) _ f g

-- embedded points take from those above them what they are billed themselves
billed : (x : Hour) → Placed x.points → billed_net x ≡ over_class x.points is_plain (adjusted_net x)
unfolding billed_net final
billed x placed =
    let ps = x.points in
    let each = class_same ps is_billing (λ p. final x C p -ℤ final x G p) (λ p. adjusted_net x p -ℤ over_embedded ps p (adjusted_net x))
    (λ p _ _. let u = embedded_sub ps p (adjusted x C) (adjusted x G) in omega (arith, ints)) in
    let apart = class_sub ps is_billing (adjusted_net x) (λ p. over_embedded ps p (adjusted_net x)) in
    let below = by_parent ps placed (adjusted_net x) in
    let classes = billing_classes ps (adjusted_net x) in
    omega (arith, ints)

plain : (x : Hour) → over_class x.points is_plain (adjusted_net x) ≡ over_class x.points is_plain (net x) +ℤ over_class x.points is_plain (borne x C) +ℤ over_class x.points is_plain (borne x G)
unfolding adjusted
plain x =
    let ps = x.points in
    let each = class_same ps is_plain (adjusted_net x) (λ p. (net x p +ℤ borne x C p) +ℤ borne x G p) (λ p _ _. omega (arith, ints)) in
    let a = class_add ps is_plain (λ p. net x p +ℤ borne x C p) (borne x G) in
    let b = class_add ps is_plain (net x) (borne x C) in
    omega (arith, ints)

-- ---- the losses of the networks

-- the net of the points that a test picks is that of their sums
net_where : (x : Hour) (b : ℕ → Bool)
    → sum_where (length x.points) b (net x) ≡ pos (total_where (length x.points) b (x.values C)) -ℤ pos (total_where (length x.points) b (x.values G))
net_where x b =
    let on_c = where_pos (length x.points) b (x.values C) in
    let on_g = where_pos (length x.points) b (x.values G) in
    let both = where_sub (length x.points) b (λ p. pos (x.values C p)) (λ p. pos (x.values G p)) in
    omega (arith, ints)

-- the net of the monitors of a network
monitors_net : Hour → ℕ → ℤ
monitors_net x zero = root_net x
monitors_net x (suc k) = net x (suc k)

loss_is : (x : Hour) (m : ℕ) → loss x m ≡ monitors_net x m -ℤ over_members x.points m (net x)
unfolding loss loss_of monitors_net root_net monitor_sum member_sum over_members over_class
loss_is x zero =
    let roots = net_where x (λ p. is_root (class_of x.points p)) in
    let inside = net_where x (joins x.points 0) in
    omega (arith, ints)
loss_is x (suc k) = let inside = net_where x (joins x.points (suc k)) in omega (arith, ints)

monitors_net_is : (x : Hour) → over_networks x.points (monitors_net x) ≡ root_net x +ℤ over_class x.points is_monitor (net x)
unfolding over_networks monitors_net
monitors_net_is x = ap (λ z. root_net x +ℤ z) (class_same x.points is_monitor (monitors_net x) (net x) by)
  where
    by : (p : ℕ) → IsPoint x.points p → is_monitor (class_of x.points p) ≡ true → monitors_net x p ≡ net x p
    by zero at e = absurd (false≢true e)
    by (suc k) at e = refl

losses : (x : Hour) → Placed x.points → over_networks x.points (loss x) ≡ root_net x -ℤ over_class x.points is_plain (net x)
losses x placed =
    let ps = x.points in
    let each = network_same ps (loss x) (λ m. monitors_net x m -ℤ over_members ps m (net x)) (λ m _. loss_is x m) in
    let apart = network_sub ps (monitors_net x) (λ m. over_members ps m (net x)) in
    let inside = by_network ps placed (net x) in
    let classes = member_classes ps (net x) in
    let monitors = monitors_net_is x in
    omega (arith, ints)

-- ---- the charges

-- the burdens are the charges and what the monitors bear
burdens : (x : Hour) (c : Channel) → over_networks x.points (burden x c) ≡ over_networks x.points (charge x c) +ℤ over_class x.points is_monitor (borne x c)
unfolding over_networks burden
burdens x c =
    let each = class_same x.points is_monitor (burden x c) (λ m. charge x c m +ℤ borne x c m) by in
    let apart = class_add x.points is_monitor (charge x c) (borne x c) in
    omega (arith, ints)
  where
    by : (m : ℕ) → IsPoint x.points m → is_monitor (class_of x.points m) ≡ true → burden x c m ≡ charge x c m +ℤ borne x c m
    by zero at e = absurd (false≢true e)
    by (suc k) at e = refl

-- what the plain members bear, and what is unborne, are the charges
charged : (x : Hour) → Placed x.points → (c : Channel) → ByCarryRule x.points (x.values c) (charge x c) (borne x c)
    → over_class x.points is_plain (borne x c) +ℤ unborne x c ≡ over_networks x.points (charge x c)
unfolding unborne
charged x placed c rule =
    let ps = x.points in
    let each = network_same ps (λ m. over_members ps m (borne x c) +ℤ unborne_of x c m) (burden x c) (add_up x c rule) in
    let left = network_add ps (λ m. over_members ps m (borne x c)) (unborne_of x c) in
    let right = burdens x c in
    let inside = by_network ps placed (borne x c) in
    let classes = member_classes ps (borne x c) in
    omega (arith, ints)

pub balanced : (x : Hour) → Placed x.points → ((c : Channel) → ByCarryRule x.points (x.values c) (charge x c) (borne x c)) → Balanced x
unfolding excess excess_of
balanced x placed rule =
    let ps = x.points in
    let a = billed x placed in
    let b = plain x in
    let c = losses x placed in
    let on_c = charged x placed C (rule C) in
    let on_g = charged x placed G (rule G) in
    let d = network_sub ps (λ m. charge x C m +ℤ charge x G m) (loss x) in
    let e = network_add ps (charge x C) (charge x G) in
    omega (arith, ints)
