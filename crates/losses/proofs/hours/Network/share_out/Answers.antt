use Rattle.std.proofs.Common.{◌≡◌, ℕ, suc, ◌+◌, List, ℤ, sym, ◌∙◌, subst₂, arith, w64, SFits, rules}
use Rattle.std.proofs.lemmas.Int.{ints, to_z-of_z}
use Rattle.shares.specs.Rules.{sum_limit}
use Rattle.losses.specs.Metered.{members_on, values_on}
use Rattle.losses.proofs.Turns.{Sharing, sharing_none, share_yes, share_no, carried_small}
use Rattle.losses.proofs.Values.{members_small}
use Rattle.losses.proofs.hours.Network.share_out.Goals as goal
use Rattle.losses.proofs.hours.Network.share_out.Goals.{then-is_member_of, else-is_member_of}

pub loop-i-init : goal.loop-i-init
loop-i-init g c = sharing_none _ _ _ _ _ _

pub share_of-share-requires-clause-small : goal.share_of-share-requires-clause-small
share_of-share-requires-clause-small g c =
    let n = c.args.self.now in
    let sum : c.unsigned_abs-total.result ≡ members_on g.A.Amount.on n = omega (arith, ints, c.unsigned_abs-total.ensures.value, c.wh.ensures, c.requires.sum) in
    carried_small _ _ _ _ _ sum _ _ _ _ sum_limit (omega (arith, sum, members_small g.A.Amount.on n)) c.loop-i.invariant

pub loop-i-preserved : goal.loop-i-preserved
loop-i-preserved g c =
    let n = c.args.self.now in
    let ps = n.hour.points.now in
    let h = values_on g.A.Amount.on n.hour in
    let m = n.number in
    let z = c.args.burden.wh in
    let total = c.unsigned_abs-total.result in
    let sum : total ≡ members_on g.A.Amount.on n = omega (arith, ints, c.unsigned_abs-total.ensures.value, c.wh.ensures, c.requires.sum) in
    elim c.if-is_member_of.branch [
      | then-is_member_of w ↦
          let s = w.share_of-share.result.0 in
          let fits : SFits w64 s = search rules in
          let value : w.unsigned_abs-value.result ≡ h (suc c.loop-i.i) = omega (arith, ints, w.unsigned_abs-value.ensures.value, w.wh-then-is_member_of.ensures, w.value_at.ensures.value) in
          subst₂ (λ (new : List ℤ) (rest : ℕ). Sharing ps h m z total c.args.borne.now new rest (c.loop-i.i + 1)) (sym w.borne-is) (sym w.carry-is)
          (share_yes ps h m z total sum c.args.borne.now c.loop-i.borne c.loop-i.carry c.loop-i.i _ _ _ value (sym w.if-is_member_of.ensures) (omega arith) c.loop-i.invariant
          (to_z-of_z w64 s fits ∙ w.share_of-share.ensures.share) w.share_of-share.ensures.rest w.share_of-share.ensures.none)
      | else-is_member_of w ↦
          subst₂ (λ (new : List ℤ) (rest : ℕ). Sharing ps h m z total c.args.borne.now new rest (c.loop-i.i + 1)) (sym w.borne-is) (sym w.carry-is)
          (share_no ps h m z total sum c.args.borne.now c.loop-i.borne c.loop-i.carry c.loop-i.i (sym w.if-is_member_of.ensures) c.loop-i.invariant)
    ]
