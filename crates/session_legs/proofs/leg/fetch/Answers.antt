use Rattle.std.proofs.Common.{refl, ap, arith, Some, sym, subst, [], false}
use Rattle.link_io.specs.Reading.{ReadOn}
use Rattle.link_io.proofs.Parts.{read_none}
use Rattle.processor_core.specs.Intakes.{count_of}
use Rattle.session_legs.specs.Legs.{no_flow}
use Rattle.session_legs.specs.declared.side.LegEnd.TheVariants.{Ended, Cut, ReadFault, NoMemory}
use Rattle.session_legs.proofs.Reading.{read_some, read_end, read_idle, read_failed}
use Rattle.session_legs.proofs.Steps.{got_ran, fed_nothing, none_ran, ask_ran, clean, same_marks, equal_lengths, other_lengths}
use Rattle.session_legs.proofs.leg.fetch.Goals as goal

pub returns-in-Err : goal.returns-in-Err
returns-in-Err g c =
    none_ran g.P.Processor.stands g.P.Processor.last _ _ (Some NoMemory) _ _
    (λ fed handed h. c.in-Err.ensures.err fed handed false h)
    (subst (λ s. ReadOn (g.S.Source.origin c.args.side.now.source) (g.S.Source.origin s) [] 0) (sym c.in-Err.ensures.unread) (read_none _)) refl refl
    (refl, refl, omega arith, same_marks _ _ refl)
    (λ fed handed h all none. tt)

pub returns-in-Ok-Got : goal.returns-in-Ok-Got
returns-in-Ok-Got g c =
    let f = c.in-Ok-Got.ensures.ok in
    let r = read_some _ _ _ _ _ c.in-Ok-Got.field-0-is f.1 in
    got_ran g.P.Processor.stands g.P.Processor.last _ _ f.0 _ _ r.0 r.1 refl refl (λ fed handed h. f.2 fed handed false h)

pub returns-then-is_empty : goal.returns-then-is_empty
returns-then-is_empty g c =
    let f = c.in-Ok-End.ensures.ok in
    let r = read_end _ _ _ _ c.in-Ok-End.field-0-is f.1 in
    let still = fed_nothing g.P.Processor.stands c.args.side.now.processor c.fill.new.self _ _ _ (ap count_of c.in-Ok-End.field-0-is) f in
    none_ran g.P.Processor.stands g.P.Processor.last _ _ (Some Ended) _ _ still r.0 refl refl
    (clean no_flow refl refl refl, same_marks _ _ refl, r.1)
    (λ fed handed h all none. equal_lengths _ _ _ (c.is_empty.ensures fed handed false (still fed handed h)) c.if-is_empty.true)

pub returns-else-is_empty : goal.returns-else-is_empty
returns-else-is_empty g c =
    let f = c.in-Ok-End.ensures.ok in
    let r = read_end _ _ _ _ c.in-Ok-End.field-0-is f.1 in
    let still = fed_nothing g.P.Processor.stands c.args.side.now.processor c.fill.new.self _ _ _ (ap count_of c.in-Ok-End.field-0-is) f in
    none_ran g.P.Processor.stands g.P.Processor.last _ _ (Some Cut) _ _ still r.0 refl refl
    (clean no_flow refl refl refl, same_marks _ _ refl, r.1)
    (λ fed handed h all none. (all, none, other_lengths _ _ _ (c.is_empty.ensures fed handed false (still fed handed h)) c.if-is_empty.false))

pub returns-in-Ok-Idle : goal.returns-in-Ok-Idle
returns-in-Ok-Idle g c =
    let f = c.in-Ok-Idle.ensures.ok in
    let r = read_idle _ _ _ _ c.in-Ok-Idle.field-0-is f.1 in
    let still = fed_nothing g.P.Processor.stands c.args.side.now.processor c.fill.new.self _ _ _ (ap count_of c.in-Ok-Idle.field-0-is) f in
    ask_ran g.P.Processor.stands g.P.Processor.last _ _ _ c.ask.result _ _ (λ fed handed h. rw c.ask.ensures.same (still fed handed h)) r.0 r.1 refl refl c.ask.ensures.asks

pub returns-in-Ok-Failed : goal.returns-in-Ok-Failed
returns-in-Ok-Failed g c =
    let f = c.in-Ok-Failed.ensures.ok in
    let r = read_failed _ _ _ _ c.in-Ok-Failed.field-0-is f.1 in
    let still = fed_nothing g.P.Processor.stands c.args.side.now.processor c.fill.new.self _ _ _ (ap count_of c.in-Ok-Failed.field-0-is) f in
    none_ran g.P.Processor.stands g.P.Processor.last _ _ (Some ReadFault) _ _ still r.0 refl refl
    (clean no_flow refl refl refl, same_marks _ _ refl, r.1)
    (λ fed handed h all none. tt)
