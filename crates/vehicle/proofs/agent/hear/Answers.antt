use Rattle.std.proofs.Common.{refl, ap}
use Rattle.std.proofs.lemmas.Bool.{false≢true}
use Rattle.vehicle.specs.Hearing.{reply_of}
use Rattle.vehicle.specs.States.{awaited_of, held_of}
use Rattle.vehicle.proofs.Hearing.{in_time, refused, too_late_lem}
use Rattle.vehicle.proofs.agent.hear.Goals as goal

pub returns-then-is_before : goal.returns-then-is_before
returns-then-is_before c =
    let arm = c.in-Asking-Confirm in
    in_time (ap awaited_of arm.is-0) (ap held_of arm.is-0) c.if-number-asked.true (ap reply_of arm.is-1) (c.if-is_before.ensures.answer.0 refl) refl

pub returns-else-is_before : goal.returns-else-is_before
returns-else-is_before c =
    let arm = c.in-Asking-Confirm in
    too_late_lem (ap awaited_of arm.is-0) (ap held_of arm.is-0) c.if-number-asked.true (ap reply_of arm.is-1) (λ t. false≢true (c.if-is_before.ensures.answer.1 t)) refl

pub returns-in-Asking-Reject : goal.returns-in-Asking-Reject
returns-in-Asking-Reject c =
    let arm = c.in-Asking-Reject in
    refused (ap awaited_of arm.is-0) (ap held_of arm.is-0) c.if-number-asked-2.true (ap reply_of arm.is-1) refl

pub returns-then-is_before-2 : goal.returns-then-is_before-2
returns-then-is_before-2 c =
    let arm = c.in-Changing-Confirm in
    in_time (ap awaited_of arm.is-0) (ap held_of arm.is-0) c.if-number-awaited.true (ap reply_of arm.is-1) (c.if-is_before-2.ensures.answer.0 refl) c.change_over.ensures

pub returns-else-is_before-2 : goal.returns-else-is_before-2
returns-else-is_before-2 c =
    let arm = c.in-Changing-Confirm in
    too_late_lem (ap awaited_of arm.is-0) (ap held_of arm.is-0) c.if-number-awaited.true (ap reply_of arm.is-1) (λ t. false≢true (c.if-is_before-2.ensures.answer.1 t)) refl

pub returns-in-Changing-Reject : goal.returns-in-Changing-Reject
returns-in-Changing-Reject c =
    let arm = c.in-Changing-Reject in
    refused (ap awaited_of arm.is-0) (ap held_of arm.is-0) c.if-number-awaited-2.true (ap reply_of arm.is-1) refl
