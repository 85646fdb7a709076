use Rattle.std.proofs.Common.{◌≡◌, ℕ, ◌+◌, ◌-◌, ◌*◌, ◌/◌, ◌≤◌, [], ◌∷◌, length, get_or, pos, sym, ap, ◌∙◌, subst, arith, w64, rules}
use Rattle.std.proofs.lemmas.Int.{to_z-of_z}
use Rattle.terms.specs.Answers.{gives, refuses}
use Rattle.terms.specs.Channels.{place_at}
use Rattle.terms.specs.Refusals.{number_of, place_of}
use Rattle.terms.specs.declared.channels.Channel.{Channel}
use Rattle.terms.specs.declared.channels.Channel.TheVariants.{C, G}
use Rattle.readings.specs.Hours.{InHour, sum_from, slot}
use Rattle.readings.specs.Places.{Usable}
use Rattle.readings.proofs.Judging.{judged}
use Rattle.readings.proofs.Progress.{ordinal_at, passed_start, passed_place, passed_channel, passed_point, written_on, written_channel, written_point, all_read, first_fault, sum_none, sum_more}
use Rattle.readings.proofs.hours.integrate_hour.Goals as goal

-- the channel of a turn
abbrev channel_at : ℕ → Channel
channel_at m = get_or (C ∷ G ∷ []) m C

pub loop-interval-init : goal.loop-interval-init
loop-interval-init g c =
    let same = c.into_iter-interval-iterator.ensures.into_iter_gives in
    let start : c.into_iter-interval-iterator.result.start ≡ 12 * c.args.hour = ap (λ r. r.start) same ∙ c.intervals_of-interval-items.ensures.first in
    record {
      low = omega arith;
      high = omega arith;
      end = ap (λ r. r.end) same ∙ c.intervals_of-interval-items.ensures.twelve;
      passed = passed_start _ _ _ _ _ (omega arith) c.loop-channel.invariant.passed;
      total = sym (sum_none _ _ _ _ _ start);
      bounded = omega arith;
    }

pub loop-interval-preserved : goal.loop-interval-preserved
loop-interval-preserved g c =
    let at = g.S.Source.at c.args.source.now in
    let h = c.args.hour in
    let p = c.loop-point.point in
    let m = c.loop-channel.channel-index in
    let i = c.in-Some.interval in
    let is = c.in-Ok.ensures in
    let usable : Usable (at (place_at p (channel_at m) i)) = rw is.found is.low in
    let turn = c.in-Some.ensures.steps in
    let before = c.loop-interval.invariant in
    let next : c.next.new.self.start ≡ i + 1 = omega (arith, turn.1.1, turn.1.2) in
    record {
      low = omega (arith, before.low, turn.1.2);
      high = omega (arith, before.end, turn.1.0, turn.1.2);
      end = turn.0 ∙ before.end;
      passed = passed_place at h p (channel_at m) m i _ (ordinal_at m c.loop-channel-test.true) next usable (rw turn.1.1 before.passed);
      total = sum_more at h p (channel_at m) i _ c.in-Ok.amount c.loop-interval.sum next (omega (arith, before.low, turn.1.1)) is.found (rw turn.1.1 before.total);
      bounded = omega (arith, is.low, before.bounded, before.low, turn.1.2);
    }

pub loop-channel-preserved : goal.loop-channel-preserved
loop-channel-preserved g c =
    let at = g.S.Source.at c.args.source.now in
    let m = c.loop-channel.channel-index in
    let o = ordinal_at m c.loop-channel-test.true in
    let read = c.loop-interval.invariant in
    let done = c.in-None.ensures.steps.1.0 in
    let last : 12 * c.args.hour + 12 ≤ c.loop-interval.interval-iterator.start = omega (arith, read.end, done) in
    let twelve : c.loop-interval.interval-iterator.start - 12 * c.args.hour ≡ 12 = omega (arith, read.high, last) in
    let total : c.loop-interval.sum ≡ sum_from at c.loop-point.point (channel_at m) (12 * c.args.hour) 12
    = subst (λ k. c.loop-interval.sum ≡ sum_from at c.loop-point.point (channel_at m) (12 * c.args.hour) k) twelve read.total in
    record {
      passed = passed_channel at c.args.hour _ _ _ last read.passed;
      written = written_channel at c.args.hour _ (channel_at m) m _ _ _ _ o c.loop-point.auto.point (c.slot_of.ensures ∙ ap (slot c.loop-point.point) o) (omega (arith, o, c.slot_of.ensures))
          (to_z-of_z w64 c.from.result (search rules) ∙ (c.from.ensures ∙ ap pos total)) c.loop-channel.invariant.written;
    }

pub returns-in-Err : goal.returns-in-Err
returns-in-Err g c =
    let at = g.S.Source.at c.args.source.now in
    let h = c.args.hour in
    let p = c.loop-point.point in
    let m = c.loop-channel.channel-index in
    let i = c.in-Some.interval in
    let e = c.in-Err.refusal in
    let so_far = c.loop-interval.invariant in
    let turn = c.in-Some.ensures.steps in
    let within : InHour (length c.args.hours.now / 2) h (place_at p (channel_at m) i)
    = (c.loop-point.auto.point, c.loop-point-test.true, omega (arith, so_far.low, turn.1.1), omega (arith, so_far.end, turn.1.0, turn.1.1)) in
    let read = first_fault at h (length c.args.hours.now / 2) p (channel_at m) m i (number_of e) (place_of e) c.args.hours.now c.loop-channel.hours
    (ordinal_at m c.loop-channel-test.true) within c.in-Err.ensures.answer (rw turn.1.1 so_far.passed)
    (written_on at h p m _ _ _ c.loop-point.invariant.written c.loop-channel.invariant.written) in
    record { tests = judged at h _ _ _ (refuses (number_of e) (place_of e)) read; read = read }

pub returns : goal.returns
returns g c =
    let at = g.S.Source.at c.args.source.now in
    let n = length c.args.hours.now / 2 in
    let end : c.loop-point.point ≡ n + 1 = omega (arith, c.loop-point.invariant.high) in
    let read = all_read at c.args.hour n _ c.args.hours.now _ end c.loop-point.invariant.passed c.loop-point.invariant.written in
    record { tests = judged at c.args.hour _ _ _ (gives tt) read; read = read }

pub returns-2 : goal.returns-2
returns-2 g c =
    let at = g.S.Source.at c.args.source.now in
    let h = c.args.hour in
    let p = c.loop-point.point in
    let n = length c.args.hours.now / 2 in
    let end : p + 1 ≡ n + 1 = omega arith in
    let two : c.loop-channel.channel-index ≡ 2 = omega arith in
    let read = all_read at h n (p + 1) c.args.hours.now _ end
    (passed_point at h p (rw two at c.loop-channel.invariant.passed))
    (written_point at h p _ _ c.loop-point.auto.point
    (written_on at h p _ _ _ _ c.loop-point.invariant.written (rw two at c.loop-channel.invariant.written))) in
    record { tests = judged at h _ _ _ (gives tt) read; read = read }
