use Rattle.desk_orders.proofs.deciding.carry_drawing.Goals as goal

pub returns-in-AddAccount : goal.returns-in-AddAccount
returns-in-AddAccount c = rw c.in-AddAccount.is c.add_account.ensures.row

pub returns-in-MakeToken : goal.returns-in-MakeToken
returns-in-MakeToken c = rw c.in-MakeToken.is (rw c.as_slice.ensures at c.make_token.ensures.row)

pub returns-in-Child : goal.returns-in-Child
returns-in-Child c = rw c.in-Child.is (rw c.as_slice-in-Child.ensures at c.child.ensures.row)

pub returns-in-Choose : goal.returns-in-Choose
returns-in-Choose c = rw c.in-Choose.is c.choose.ensures.row

pub returns-in-Save : goal.returns-in-Save
returns-in-Save c = rw c.in-Save.is c.save.ensures.row
