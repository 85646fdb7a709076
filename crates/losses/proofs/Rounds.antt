-- Sharing out network after network gives every point what it bears.
use Rattle.std.proofs.Common.{◌≡◌, ℕ, zero, suc, ◌<◌, ◌≤◌, Bool, true, false, cond, ◌&&◌, eqb, ltb, List, length, get_or, ℤ, pos, ◌+ℤ◌, sym, refl, ap, ◌∙◌, ⊎_elim, arith}
use Rattle.std.proofs.lemmas.Int.{ints}
use Rattle.std.proofs.lemmas.Bool.{and_from, cases_Bool, cases_lt, cond-true, eq-eqb, eqb-true, false≢true, le-ltb, lt-ltb, or_cases}
use Rattle.terms.specs.declared.channels.Channel.{Channel}
use Rattle.points.specs.Classes.{is_member, is_monitor}
use Rattle.points.specs.Points.{class_of, parent_of, joins, is_network}
use Rattle.points.specs.Rules.{Placed}
use Rattle.points.specs.declared.classes.Point.{Point}
use Rattle.points.proofs.Depths.{parent_earlier}
use Rattle.points.proofs.Parents.{joins_parts, member_names}
use Rattle.shares.specs.Carry.{share, burden_by}
use Rattle.shares.specs.Hours.{Hour, charge, borne, burden}
use Rattle.shares.proofs.Expanded.{monitor_member}
use Rattle.shares.proofs.Passing.{carried}
use Rattle.losses.specs.Blocks.{entry}
use Rattle.losses.specs.Rounds.{Done}
use Rattle.losses.specs.Sharing.{SharedOut}

-- a network but the main one has a monitor
pub has_monitor : (ps : List Point) (i : ℕ) → is_network ps (suc i) ≡ true → is_monitor (class_of ps (suc i)) ≡ true
has_monitor ps i e =
    ⊎_elim (λ main. absurd (omega (arith, eqb-true (suc i) 0 main))) (λ is. is) (or_cases (eqb (suc i) 0) (is_monitor (class_of ps (suc i))) e)

-- a test of two parts, and what stands for each way
by_tests : (s t : Bool) (x y : ℤ) → (s ≡ true → t ≡ true → x ≡ y) → (s ≡ false → x ≡ pos 0) → (s ≡ true → t ≡ false → x ≡ pos 0) → x ≡ cond (s && t) y (pos 0)
by_tests true true x y f g h = f refl refl
by_tests true false x y f g h = h refl refl
by_tests false t x y f g h = g refl

-- of those that name another network than m, as many name one below m + 1 as below m
same_tests : (s : Bool) (q m : ℕ) → (s ≡ true → q ≡ m → ⊥) → (s && ltb q m) ≡ (s && ltb q (suc m))
same_tests false q m other = refl
same_tests true q m other =
    ⊎_elim
    (λ low. lt-ltb q m low ∙ sym (lt-ltb q (suc m) (omega arith)))
    (λ high. let ne : q ≡ m → ⊥ = other refl in le-ltb q m high ∙ sym (le-ltb q (suc m) (omega arith)))
    (cases_lt q m)

module _ (x : Hour) (placed : Placed x.points) (c : Channel) where
  -- at first no entry is anything but 0
  pub none_done : (bs : List ℤ) → ((k : ℕ) → get_or bs k (pos 0) ≡ pos 0) → Done x c 0 bs
  none_done bs zeros k low =
      by_tests (is_member (class_of x.points (suc k))) (ltb (parent_of x.points (suc k)) 0) (get_or bs k (pos 0)) (borne x c (suc k))
      (λ _ t. absurd (false≢true (sym (le-ltb (parent_of x.points (suc k)) 0 (omega arith)) ∙ t))) (λ _. zeros k) (λ _ _. zeros k)

  -- the burden of the next network, by what its monitor has in the block
  pub burden_entry : (m : ℕ) (bs : List ℤ) → m ≤ length x.points → is_network x.points m ≡ true → Done x c m bs → charge x c m +ℤ entry bs m ≡ burden x c m
  unfolding burden
  burden_entry zero bs within network done = omega (arith, ints)
  burden_entry (suc i) bs within network done =
      let monitor = has_monitor x.points i network in
      let test = and_from (is_member (class_of x.points (suc i))) (ltb (parent_of x.points (suc i)) (suc i)) (monitor_member (class_of x.points (suc i)) monitor)
      (lt-ltb (parent_of x.points (suc i)) (suc i) (parent_earlier x.points placed (suc i) (omega arith))) in
      ap (λ (z : ℤ). charge x c (suc i) +ℤ z) (done i (omega arith) ∙ cond-true _ (borne x c (suc i)) (pos 0) test)

  -- one network more
  pub network_done : (m : ℕ) (z : ℤ) (old new : List ℤ) → z ≡ burden x c m → Done x c m old → SharedOut x.points (x.values c) m z old new (length x.points) → Done x c (suc m) new
  unfolding burden
  network_done m z old new z-is before shared k low = ⊎_elim joined apart (cases_Bool (joins x.points m (suc k)))
    where
      joined : joins x.points m (suc k) ≡ true → get_or new k (pos 0) ≡ cond (is_member (class_of x.points (suc k)) && ltb (parent_of x.points (suc k)) (suc m)) (borne x c (suc k)) (pos 0)
      joined j =
          let parts = joins_parts x.points m (suc k) j in
          let named : parent_of x.points (suc k) ≡ m = parts.1 in
          let here : get_or new k (pos 0) ≡ borne x c (suc k) =
          shared k low ∙ cond-true _ (share x.points (x.values c) m z (suc k)) (get_or old k (pos 0)) j
          ∙ ap (λ (w : ℤ). share x.points (x.values c) m w (suc k)) z-is
          ∙ ap (λ (r : ℕ). share x.points (x.values c) r (burden_by (charge x c) (borne x c) r) (suc k)) (sym named)
          ∙ sym (carried x placed c (suc k) (omega arith, low) ∙ cond-true _ _ (pos 0) parts.0) in
          here ∙ sym (cond-true _ (borne x c (suc k)) (pos 0) (and_from (is_member (class_of x.points (suc k))) (ltb (parent_of x.points (suc k)) (suc m)) parts.0 (lt-ltb (parent_of x.points (suc k)) (suc m) (omega arith))))

      apart : joins x.points m (suc k) ≡ false → get_or new k (pos 0) ≡ cond (is_member (class_of x.points (suc k)) && ltb (parent_of x.points (suc k)) (suc m)) (borne x c (suc k)) (pos 0)
      apart j =
          shared k low ∙ ap (λ (t : Bool). cond t (share x.points (x.values c) m z (suc k)) (get_or old k (pos 0))) j ∙ before k low
          ∙ ap (λ (t : Bool). cond t (borne x c (suc k)) (pos 0))
          (same_tests (is_member (class_of x.points (suc k))) (parent_of x.points (suc k)) m
          (λ e named. false≢true (sym j ∙ and_from (is_member (class_of x.points (suc k))) (eqb (parent_of x.points (suc k)) m) e (eq-eqb (parent_of x.points (suc k)) m named))))

  -- a number that is no network changes nothing
  pub plain_done : (m : ℕ) (bs : List ℤ) → is_network x.points m ≡ false → Done x c m bs → Done x c (suc m) bs
  plain_done m bs plain before k low =
      before k low
      ∙ ap (λ (t : Bool). cond t (borne x c (suc k)) (pos 0))
      (same_tests (is_member (class_of x.points (suc k))) (parent_of x.points (suc k)) m
      (λ e named. false≢true (sym plain ∙ sym (ap (is_network x.points) named) ∙ member_names x.points placed (suc k) e)))

  -- behind the last point every entry is what its point bears
  pub all_done : (n : ℕ) (bs : List ℤ) → length x.points < n → Done x c n bs → (k : ℕ) → k < length x.points → get_or bs k (pos 0) ≡ borne x c (suc k)
  all_done n bs behind done k low = done k low ∙ by (is_member (class_of x.points (suc k))) refl
    where
      by : (t : Bool) → is_member (class_of x.points (suc k)) ≡ t → cond (t && ltb (parent_of x.points (suc k)) n) (borne x c (suc k)) (pos 0) ≡ borne x c (suc k)
      by true e =
          let earlier = parent_earlier x.points placed (suc k) (omega arith) in
          cond-true _ (borne x c (suc k)) (pos 0) (lt-ltb (parent_of x.points (suc k)) n (omega arith))
      by false e =
          sym (carried x placed c (suc k) (omega arith, low)
          ∙ ap (λ (t : Bool). cond t (share x.points (x.values c) (parent_of x.points (suc k)) (burden_by (charge x c) (borne x c) (parent_of x.points (suc k))) (suc k)) (pos 0)) e)
