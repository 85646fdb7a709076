use Rattle.std.proofs.Common.{ℤ, ap, ◌∙◌, arith}
use Rattle.std.proofs.lemmas.Int.{ints}
use Rattle.std.proofs.lemmas.Result.{err_from_is_err_and}
use Rattle.terms.specs.Answers.{gives, refuses}
use Rattle.terms.specs.Refusals.{number_of, place_of}
use Rattle.terms.specs.declared.channels.Channel.TheVariants.{C, G}
use Rattle.shares.specs.Runs.{limit_test}
use Rattle.losses.specs.Metered.{hour_by}
use Rattle.losses.proofs.Charging.{charged_small, loss_small}
use Rattle.losses.proofs.Rounds.{network_done}
use Rattle.losses.proofs.Settling.{refused_on_c, then_on_g, unborne_is, burden_at, excess_at}
use Rattle.losses.proofs.hours.Network.settle.Goals as goal

pub returns-in_err-unborne_c : goal.returns-in_err-unborne_c
returns-in_err-unborne_c g c =
    let n = c.args.self.now in
    let rule = g.R.LossRule.rule c.args.rule.now in
    let e = c.in_err-unborne_c.field-0.0 in
    let on_c = burden_at n rule _ c.sums-sums.ensures _ c.charges-charges.ensures C c.args.borne_c.now c.requires.done_c in
    let p = err_from_is_err_and c.from_residual.result c.from_residual.ensures.1 in
    rw (p.1, p.2) (record {
      tests = refused_on_c (hour_by rule n.hour) n.number n.network (number_of e) (place_of e)
          (c.in_err-unborne_c.ensures.test ∙ ap (λ (z : ℤ). limit_test z n.number C) on_c);
      settled = tt;
    })

pub returns-in_err-unborne_g : goal.returns-in_err-unborne_g
returns-in_err-unborne_g g c =
    let n = c.args.self.now in
    let rule = g.R.LossRule.rule c.args.rule.now in
    let e = c.in_err-unborne_g.field-0.0 in
    let burdens = burden_at n rule _ c.sums-sums.ensures _ c.charges-charges.ensures in
    let on_c = burdens C c.args.borne_c.now c.requires.done_c in
    let on_g = burdens G c.args.borne_g.now c.requires.done_g in
    let p = err_from_is_err_and c.from_residual-in_err-unborne_g.result c.from_residual-in_err-unborne_g.ensures.1 in
    rw (p.1, p.2) (record {
      tests = then_on_g (hour_by rule n.hour) n.number n.network (refuses (number_of e) (place_of e))
          (c.in_ok-unborne_c.ensures.test ∙ ap (λ (z : ℤ). limit_test z n.number C) on_c)
          (c.in_err-unborne_g.ensures.test ∙ ap (λ (z : ℤ). limit_test z n.number G) on_g);
      settled = tt;
    })

pub excess_of-excess-requires : goal.excess_of-excess-requires
excess_of-excess-requires g c =
    let s = c.sums-sums.result in
    let small = charged_small s _ (g.met.R.LossRule.meaning c.args.rule.now) _ c.charges-charges.ensures in
    record { c = small.0; g = small.1; l = omega (arith, ints, loss_small s, c.loss.ensures) }

pub returns : goal.returns
returns g c =
    let n = c.args.self.now in
    let m = n.number in
    let rule = g.R.LossRule.rule c.args.rule.now in
    let x = hour_by rule n.hour in
    let s = c.sums-sums.result in
    let burdens = burden_at n rule s c.sums-sums.ensures _ c.charges-charges.ensures in
    let on_c = burdens C c.args.borne_c.now c.requires.done_c in
    let on_g = burdens G c.args.borne_g.now c.requires.done_g in
    let left_c = unborne_is x C m _ c.in_ok-unborne_c.unborne_c.0 on_c c.in_ok-unborne_c.ensures.test c.in_ok-unborne_c.ensures.unborne in
    let left_g = unborne_is x G m _ c.in_ok-unborne_g.unborne_g.0 on_g c.in_ok-unborne_g.ensures.test c.in_ok-unborne_g.ensures.unborne in
    let over = excess_at n rule s c.sums-sums.ensures _ c.charges-charges.ensures in
    record {
      tests = then_on_g x m n.network (gives tt)
          (c.in_ok-unborne_c.ensures.test ∙ ap (λ (z : ℤ). limit_test z m C) on_c)
          (c.in_ok-unborne_g.ensures.test ∙ ap (λ (z : ℤ). limit_test z m G) on_g);
      settled = record {
        done_c = network_done x n.hour.placed C m _ c.args.borne_c.now c.settle_on.new.borne on_c c.requires.done_c c.in_ok-unborne_c.ensures.shared;
        done_g = network_done x n.hour.placed G m _ c.args.borne_g.now c.settle_on-2.new.borne on_g c.requires.done_g c.in_ok-unborne_g.ensures.shared;
        unborne_c = left_c.0;
        unborne_g = left_g.0;
        excess_over = omega (arith, ints, loss_small s, c.loss.ensures, c.excess_of-excess.ensures.value, c.excess_of-excess.ensures.small, over);
        small = record {
          on_c = left_c.1;
          on_g = left_g.1;
          over = omega (arith, ints, c.excess_of-excess.ensures.small);
        };
      };
    }
