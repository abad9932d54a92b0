-- What stands at the places of a batch.
use Rattle.fl_jobs.specs.declared.job.Job.{Job}
use Rattle.fl_jobs.specs.declared.job.Job.TheVariants.{Arrive}
use Rattle.fl_wire.specs.declared.packet.Packet.{Packet}
use Rattle.fl_wire.specs.declared.packet.Packet.TheVariants.{Full, Have, Delta, Data}
use Rattle.fl_dealing.specs.declared.item.Item.{Item}

-- a job that is asked for
abbrev pub job_item : Job → Item
job_item job = Item.Job job

-- a message is the job that it arrives, and any other packet stays one
abbrev pub item_of : Packet → Item
item_of (Data message) = Item.Job (Arrive message)
item_of (Full batch) = Item.Packet (Full batch)
item_of (Have window) = Item.Packet (Have window)
item_of (Delta batch) = Item.Packet (Delta batch)
