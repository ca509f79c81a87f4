-- A fault of an element is of instance 0, and the header before it is right.
use Rattle.std.proofs.Common.{◌≡◌, subst, arith}
use Rattle.gtpv2_msg.specs.declared.fault.CBad.{CBad}
use Rattle.gtpv2_msg.specs.Refusal.{IsRefusal}
use Rattle.gtpv2_msg.proofs.RequiredLemmas.{first_missing, first_incorrect, right_missing, right_incorrect}
use Rattle.gtpv2_msg.proofs.refusing.refusal.Goals as goal

pub refuse_request-requires-clause-right : goal.refuse_request-requires-clause-right
refuse_request-requires-clause-right c =
    right_missing c.args.bytes.now _ _
    (subst (λ (bad : CBad). IsRefusal c.args.bytes.now bad) c.in-Missing.is c.requires)

pub refuse_request-requires-clause-instance : goal.refuse_request-requires-clause-instance
refuse_request-requires-clause-instance c =
    let zero : c.in-Missing.instance ≡ 0 =
    first_missing c.args.bytes.now _ _
    (subst (λ (bad : CBad). IsRefusal c.args.bytes.now bad) c.in-Missing.is c.requires) in
    omega arith

pub refuse_request-requires-in-Incorrect-clause-right : goal.refuse_request-requires-in-Incorrect-clause-right
refuse_request-requires-in-Incorrect-clause-right c =
    right_incorrect c.args.bytes.now _ _
    (subst (λ (bad : CBad). IsRefusal c.args.bytes.now bad) c.in-Incorrect.is c.requires)

pub refuse_request-requires-in-Incorrect-clause-instance : goal.refuse_request-requires-in-Incorrect-clause-instance
refuse_request-requires-in-Incorrect-clause-instance c =
    let zero : c.in-Incorrect.instance ≡ 0 =
    first_incorrect c.args.bytes.now _ _
    (subst (λ (bad : CBad). IsRefusal c.args.bytes.now bad) c.in-Incorrect.is c.requires) in
    omega arith
